-- The text that is read up to a reached state begins a valid one: further lines finish the module that is begun to a well-formed
-- one, whose name no earlier one has. So a text that is read to its end so far may go on.
use Rattle.std.proofs.Common.{◌≡◌, ℕ, List, [], ◌∷◌, ◌++◌, ap, sym, ◌∙◌, append_assoc, append-nil}
use Rattle.std.proofs.lemmas.Grind.{flat_map-append}
use Rattle.sv_tree.specs.Module.{Module}
use Rattle.sv_tree.specs.Text.{module_text, modules_text}
use Rattle.sv_lines.specs.Refused.{BeginsText}
use Rattle.sv_lines.specs.State.{Wanted, clock_wanted, reset_wanted, port_wanted, closing_wanted, valid_wanted, ack_wanted, item_wanted, assign_wanted, second_wanted, test_wanted, resets_wanted, nexts_wanted, end_wanted, last_wanted, State, between, inside, draft_text, text_of}
use Rattle.sv_lines.proofs.kept.KeptDrafts.{Drafted, At, Kept}
use Rattle.sv_lines.proofs.kept.StepsKeep.{one_more, kept_between}
use Rattle.sv_lines.proofs.begun.Begun.{Completed}
use Rattle.sv_lines.proofs.begun.BegunHeader.{clock_begun, reset_begun, port_begun, closing_begun, valid_begun, ack_begun}
use Rattle.sv_lines.proofs.begun.BegunItems.{item_begun, assign_begun, second_begun}
use Rattle.sv_lines.proofs.begun.BegunClock.{test_begun, resets_begun, nexts_begun, end_begun, last_begun}

pub completes : (whole : List Module) (draft : Module) (wanted : Wanted) → Drafted whole draft → At draft wanted → Completed whole draft wanted
completes whole draft clock_wanted drafted at = clock_begun whole draft drafted
completes whole draft reset_wanted drafted at = reset_begun whole draft drafted
completes whole draft port_wanted drafted at = port_begun whole draft drafted at
completes whole draft closing_wanted drafted at = closing_begun whole draft drafted
completes whole draft (valid_wanted port) drafted at = valid_begun whole draft port drafted at
completes whole draft (ack_wanted port) drafted at = ack_begun whole draft port drafted at
completes whole draft item_wanted drafted at = item_begun whole draft drafted
completes whole draft (assign_wanted width) drafted at = assign_begun whole draft width drafted at
completes whole draft (second_wanted value) drafted at = second_begun whole draft value drafted at
completes whole draft test_wanted drafted at = test_begun whole draft drafted at
completes whole draft (resets_wanted done) drafted at = resets_begun whole draft done drafted at
completes whole draft nexts_wanted drafted at = nexts_begun whole draft drafted at
completes whole draft end_wanted drafted at = end_begun whole draft drafted at
completes whole draft last_wanted drafted at = last_begun whole draft drafted at

-- the text of the modules is what is read and the lines that finish the module
finished_text : (whole : List Module) (tree : Module) (read rest : List ℕ) → module_text tree ≡ read ++ rest → (modules_text whole ++ read) ++ rest ≡ modules_text (whole ++ (tree ∷ []))
finished_text whole tree read rest is =
    append_assoc (modules_text whole) read rest ∙ ap (λ l. modules_text whole ++ l) (sym is ∙ sym (append-nil (module_text tree))) ∙ sym (flat_map-append module_text whole (tree ∷ []))

pub begins : (state : State) → Kept state → BeginsText (text_of state)
begins (between whole) kept =
    let facts = kept_between whole kept in
    ([], whole, record { well_formed = facts.well_formed; names_differ = facts.names_differ; written = append-nil (modules_text whole) })
begins (inside whole draft wanted) kept =
    let completed = completes whole draft wanted kept.drafted kept.at in
    let modules = whole ++ (completed.tree ∷ []) in
    let facts = kept_between modules (one_more whole completed.tree completed.finished) in (
      completed.rest,
      modules,
      record {
        well_formed = facts.well_formed;
        names_differ = facts.names_differ;
        written = finished_text whole completed.tree (draft_text draft wanted) completed.rest completed.written;
      },
    )
