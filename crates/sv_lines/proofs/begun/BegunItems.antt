-- Behind the header: what is missing is filled up. A net that is declared is given `~W'd0`, and an output whose `data` is read
-- is never valid.
use Rattle.std.proofs.Common.{◌≡◌, ℕ, ◌+◌, true, List, [], ◌∷◌, ◌++◌, length, drop, Some, refl, ap, sym, ◌∙◌, append_assoc, append-nil, arith}
use Rattle.std.proofs.lemmas.Grind.{flat_map-append}
use Rattle.std.specs.Prelude.{zip, flat_map, slice_get}
use Rattle.std.specs.List.{enumerate_from}
use Rattle.sv_tree.specs.declared.tree.SvPort.{SvPort}
use Rattle.sv_tree.specs.declared.tree.SvNet.{SvNet}
use Rattle.sv_tree.specs.declared.tree.SvOperand.{SvOperand}
use Rattle.sv_tree.specs.declared.tree.SvOut.{SvOut}
use Rattle.sv_tree.specs.declared.tree.SvOut.TheVariants.{Sent}
use Rattle.sv_tree.specs.Module.{Module}
use Rattle.sv_tree.specs.WellFormed.{out_fits}
use Rattle.sv_tree.specs.Text.{closing_line, register_line, net_line, net_assign_line, net_lines, data_assign_line, valid_assign_line, out_lines, clock_lines, last_line}
use Rattle.sv_lines.specs.State.{header_text, declared_text, items_text, first_line, some_net, draft_text, with_net, with_out, item_wanted, assign_wanted, second_wanted}
use Rattle.sv_lines.proofs.kept.KeptDrafts.{Drafted, NetBegun, OutBegun}
use Rattle.sv_lines.proofs.kept.NetsLonger.{with_net_drafted}
use Rattle.sv_lines.proofs.kept.OutputsKept.{with_out_drafted}
use Rattle.sv_lines.proofs.begun.Filled.{literal_of_width, gives_literal, filled, filled_finished}
use Rattle.sv_lines.proofs.begun.FilledText.{zip_none, zip_longer, enumerate_longer, missing_lines, items_filled}
use Rattle.sv_lines.proofs.begun.Begun.{Completed}

-- what follows the outputs that are read
abbrev behind_items : Module → List ℕ
behind_items tree = missing_lines tree (drop (length tree.outs) tree.ports) ++ (clock_lines (filled tree) tree.regs ++ last_line)

pub item_begun : (whole : List Module) (draft : Module) → Drafted whole draft → Completed whole draft item_wanted
unfolding draft_text
item_begun whole draft drafted = record {
  tree = filled draft;
  finished = filled_finished whole draft drafted;
  rest = behind_items draft;
  written = items_filled draft;
}

-- A net.

nets_text : (tree : Module) (net : SvNet)
    → flat_map (net_lines tree) (enumerate_from 0 (tree.nets ++ (net ∷ []))) ≡ flat_map (net_lines tree) (enumerate_from 0 tree.nets) ++ ((net_line (length tree.nets) net ++ net_assign_line tree (length tree.nets) net) ++ [])
nets_text tree net =
    ap (flat_map (net_lines tree)) (enumerate_longer 0 tree.nets net) ∙ flat_map-append (net_lines tree) (enumerate_from 0 tree.nets) ((0 + length tree.nets, net) ∷ [])
    ∙ ap (λ index. flat_map (net_lines tree) (enumerate_from 0 tree.nets) ++ ((net_line index net ++ net_assign_line tree index net) ++ [])) from_none
  where
    from_none : 0 + length tree.nets ≡ length tree.nets
    from_none = omega arith

net_join : (header closing regs nets line assign rest : List ℕ)
    → ((header ++ (closing ++ (regs ++ (nets ++ ((line ++ assign) ++ []))))) ++ []) ++ rest ≡ (((header ++ (closing ++ (regs ++ nets))) ++ []) ++ line) ++ (assign ++ rest)
net_join header closing regs nets line assign rest = simp (append_assoc, append-nil)

-- the items before a net is read, and with it
net_items : (draft : Module) (net : SvNet) (rest : List ℕ) → draft.outs ≡ []
    → items_text (with_net draft net) ++ rest ≡ (items_text draft ++ net_line (length draft.nets) net) ++ (net_assign_line draft (length draft.nets) net ++ rest)
net_items draft net rest none =
    ap (λ outs. (declared_text (with_net draft net) ++ outs) ++ rest) no_lines
    ∙ ap (λ nets. ((header_text draft ++ (closing_line ++ (flat_map register_line draft.regs ++ nets))) ++ []) ++ rest) (nets_text draft net)
    ∙ net_join (header_text draft) closing_line (flat_map register_line draft.regs) (flat_map (net_lines draft) (enumerate_from 0 draft.nets)) (net_line (length draft.nets) net)
    (net_assign_line draft (length draft.nets) net) rest
    ∙ ap (λ outs. ((declared_text draft ++ outs) ++ net_line (length draft.nets) net) ++ (net_assign_line draft (length draft.nets) net ++ rest)) (sym no_lines)
  where
    no_lines : flat_map (out_lines draft) (zip draft.ports draft.outs) ≡ []
    no_lines = ap (flat_map (out_lines draft)) (zip_none draft.ports draft.outs none)

pub assign_begun : (whole : List Module) (draft : Module) (width : ℕ) → Drafted whole draft → NetBegun draft width → Completed whole draft (assign_wanted width)
unfolding draft_text
assign_begun whole draft width drafted at =
    let net : SvNet = some_net width in
    let longer = with_net draft net in
    record {
      tree = filled longer;
      finished = filled_finished whole longer (with_net_drafted whole draft width net.op drafted at (gives_literal draft width at.within));
      rest = net_assign_line draft (length draft.nets) net ++ behind_items longer;
      written = items_filled longer ∙ net_items draft net (behind_items longer) at.no_outs;
    }

-- An output.

outs_join : (declared outs line valid rest : List ℕ) → (declared ++ (outs ++ ((line ++ valid) ++ []))) ++ rest ≡ ((declared ++ outs) ++ line) ++ (valid ++ rest)
outs_join declared outs line valid rest = simp (append_assoc, append-nil)

out_items : (draft : Module) (port : SvPort) (value valid : SvOperand) (rest : List ℕ) → slice_get draft.ports (length draft.outs) ≡ Some port
    → items_text (with_out draft (Sent value valid)) ++ rest ≡ (items_text draft ++ data_assign_line draft port value) ++ (valid_assign_line draft port valid ++ rest)
out_items draft port value valid rest there =
    ap (λ outs. (declared_text draft ++ outs) ++ rest)
    (ap (flat_map (out_lines draft)) (zip_longer draft.ports draft.outs port (Sent value valid) there)
    ∙ flat_map-append (out_lines draft) (zip draft.ports draft.outs) ((port, Sent value valid) ∷ []))
    ∙ outs_join (declared_text draft) (flat_map (out_lines draft) (zip draft.ports draft.outs)) (data_assign_line draft port value) (valid_assign_line draft port valid) rest

pub second_begun : (whole : List Module) (draft : Module) (value : SvOperand) → Drafted whole draft → OutBegun draft value → Completed whole draft (second_wanted value)
unfolding draft_text
second_begun whole draft value drafted at =
    let valid : SvOperand = literal_of_width 1 in
    let port : SvPort = at.port in
    let out : SvOut = Sent value valid in
    let longer = with_out draft out in
    let fits : out_fits draft port out ≡ true = rw (at.is_sent, at.fits, gives_literal draft 1 refl) refl in
    record {
      tree = filled longer;
      finished = filled_finished whole longer (with_out_drafted whole draft port out drafted at.no_nexts at.is_there fits);
      rest = valid_assign_line draft port valid ++ behind_items longer;
      written =
          items_filled longer ∙ out_items draft port value valid (behind_items longer) at.is_there
          ∙ ap (λ found. (items_text draft ++ first_line draft found value) ++ (valid_assign_line draft port valid ++ behind_items longer)) (sym at.is_there);
    }
