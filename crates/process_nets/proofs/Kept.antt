-- What registers take, one after the other: what is drawn stays drawn, and what is asked still stands.
use Rattle.std.proofs.Common.{◌≡◌, ℕ, ◌+◌, ◌<◌, ◌≤◌, ◌⊎◌, inl, inr, List, [], ◌∷◌, ◌++◌, length, Some, sym, ◌∙◌, ap, subst, arith}
use Rattle.std.specs.Prelude.{slice_get, slice_index_or}
use Rattle.std.proofs.lemmas.Bool.{cases_lt}
use Rattle.std.proofs.lemmas.List.{get_or_append_left, get_or_at}
use Rattle.order_rules.specs.Form.{Form, Start, Same, After, Sync, Join, Side, Merge}
use Rattle.sv_tree.specs.declared.tree.SvOperand.{SvOperand}
use Rattle.sv_tree.specs.Module.{Module}
use Rattle.module_nets.specs.declared.signal.Signal.{Signal}
use Rattle.module_nets.specs.Netlist.{Extends, Stands}
use Rattle.module_nets.specs.Bits.{told}
use Rattle.module_nets.specs.Signals.{signal_at}
use Rattle.module_nets.proofs.Growing.{of_later, stands_later}
use Rattle.machine_parts.specs.declared.frame.Keep.{Keep}
use Rattle.machine_parts.specs.declared.frame.Keep.TheVariants as keep
use Rattle.machine_parts.specs.declared.thread.ThreadDraft.{ThreadDraft}
use Rattle.machine_parts.specs.Parts.{bit_at, form_in}
use Rattle.machine_parts.specs.Frames.{keep_at}
use Rattle.machine_parts.specs.Nodes.{AreBits}
use Rattle.machine_parts.specs.Modules.{NextDrawn, NodeNext, no_operand}
use Rattle.process_nets.specs.Kept.{KeepStands, KeptDrawn, NextsDrawn}
use Rattle.process_nets.proofs.Bits.{are_bits_later}
use Rattle.process_nets.proofs.Steps.{writes_later}
use Rattle.process_nets.proofs.NodeStates.{nodes_later}

pub same_draft : (drafts : List ThreadDraft) (thread : ℕ) (one other : ThreadDraft) → slice_get drafts thread ≡ Some one → slice_get drafts thread ≡ Some other → one ≡ other
same_draft drafts thread one other first second = cc

module _ (new : Module) (registers wires : List Signal) (drafts : List ThreadDraft) where
  pub node_kept : (thread node : ℕ) (draft : ThreadDraft) (next : Signal) → slice_get drafts thread ≡ Some draft → Stands new next
      → next.width ≡ (bit_at draft.states.now.nodes.items node).width → NodeNext new wires draft node next (form_in draft.plan.now.nodes.items node)
      → KeptDrawn new registers wires drafts (keep.Node thread node) next
  node_kept thread node draft next get stands width drawn = record {
    stands = stands;
    width = λ other is. width ∙ ap (λ (d : ThreadDraft). (bit_at d.states.now.nodes.items node).width) (same_draft drafts thread draft other get is);
    drawn = λ other is.
        subst (λ d. NodeNext new wires d node next (form_in d.plan.now.nodes.items node)) (same_draft drafts thread draft other get is) drawn;
  }

  pub side_kept : (thread site : ℕ) (draft : ThreadDraft) (next : Signal) → slice_get drafts thread ≡ Some draft → AreBits new draft.nets.sides.items
      → next ≡ bit_at draft.nets.sides.items site → KeptDrawn new registers wires drafts (keep.Side thread site) next
  side_kept thread site draft next get bits is = record {
    stands = subst (Stands new) (sym is) (bits site).stands;
    width = ap (λ (s : Signal). s.width) is ∙ (bits site).one_bit;
    drawn = λ other found now of.
        ap (told now) is ∙ ap (λ (d : ThreadDraft). told now (bit_at d.nets.sides.items site)) (same_draft drafts thread draft other get found);
  }

  pub newest_kept : (thread site : ℕ) (draft : ThreadDraft) (next : Signal) → slice_get drafts thread ≡ Some draft → AreBits new draft.newest.items
      → next ≡ bit_at draft.newest.items site → KeptDrawn new registers wires drafts (keep.Newest thread site) next
  newest_kept thread site draft next get bits is = record {
    stands = subst (Stands new) (sym is) (bits site).stands;
    width = ap (λ (s : Signal). s.width) is ∙ (bits site).one_bit;
    drawn = λ other found now of.
        ap (told now) is ∙ ap (λ (d : ThreadDraft). told now (bit_at d.newest.items site)) (same_draft drafts thread draft other get found);
  }

module _ (old new : Module) (e : Extends old new) (registers wires : List Signal) (drafts : List ThreadDraft) where
  pub keep_stands_later : (kept : Keep) → KeepStands old registers drafts kept → KeepStands new registers drafts kept
  keep_stands_later (keep.Source register) stand =
      (stands_later old new (signal_at registers register) e stand.0, λ thread draft is. writes_later old new register (signal_at registers register).width draft e (stand.1 thread draft is))
  keep_stands_later (keep.Started thread) stand = tt
  keep_stands_later (keep.Node thread node) stand = (stand.0, stand.1, nodes_later old new stand.0 e stand.2, stand.3, stand.4)
  keep_stands_later (keep.Side thread site) stand = (stand.0, stand.1, are_bits_later old new stand.0.nets.sides.items e stand.2)
  keep_stands_later (keep.Newest thread site) stand = (stand.0, stand.1, are_bits_later old new stand.0.newest.items e stand.2)

  node_next_later : (draft : ThreadDraft) (node : ℕ) (next : Signal) (form : Form ℕ) → NodeNext old wires draft node next form → NodeNext new wires draft node next form
  node_next_later draft node next Start is = tt
  node_next_later draft node next (Same from) is = tt
  node_next_later draft node next (After delay from) is = λ now of. is now (of_later old new now e of)
  node_next_later draft node next (Sync from) is = λ now of. is now (of_later old new now e of)
  node_next_later draft node next (Join first second) is = λ now of. is now (of_later old new now e of)
  node_next_later draft node next (Side from) is = tt
  node_next_later draft node next (Merge first second) is = tt

  pub next_later : (kept : Keep) (next : Signal) → NextDrawn old registers wires drafts kept next → NextDrawn new registers wires drafts kept next
  next_later (keep.Source register) next is = λ now of. is now (of_later old new now e of)
  next_later (keep.Started thread) next is = λ now of. is now (of_later old new now e of)
  next_later (keep.Node thread node) next is = λ draft get. node_next_later draft node next (form_in draft.plan.now.nodes.items node) (is draft get)
  next_later (keep.Side thread site) next is = λ draft get now of. is draft get now (of_later old new now e of)
  next_later (keep.Newest thread site) next is = λ draft get now of. is draft get now (of_later old new now e of)

  pub kept_later : (kept : Keep) (next : Signal) → KeptDrawn old registers wires drafts kept next → KeptDrawn new registers wires drafts kept next
  kept_later kept next drawn = record {
    stands = stands_later old new next e drawn.stands;
    width = drawn.width;
    drawn = next_later kept next drawn.drawn;
  }

  pub nexts_later : (keeps : List Keep) (nexts : List SvOperand) (count : ℕ) → NextsDrawn old registers wires drafts keeps nexts count → NextsDrawn new registers wires drafts keeps nexts count
  nexts_later keeps nexts count drawn place within =
      let one = drawn place within in
      (one.0, kept_later (keep_at keeps place) record { operand = slice_index_or nexts place no_operand; width = one.0 } one.1)

  pub nexts_push : (keeps : List Keep) (nexts : List SvOperand) (next : Signal) (k : ℕ) → length nexts ≡ k → NextsDrawn old registers wires drafts keeps nexts k
      → KeptDrawn new registers wires drafts (keep_at keeps k) next → NextsDrawn new registers wires drafts keeps (nexts ++ next.operand ∷ []) (k + 1)
  nexts_push keeps nexts next k count drawn last place within = at (cases_lt place k)
    where
      There : ℕ → SvOperand → Type 0
      There i operand = (width : ℕ) × KeptDrawn new registers wires drafts (keep_at keeps i) record { operand = operand; width = width }

      at : (place < k) ⊎ (k ≤ place) → There place (slice_index_or (nexts ++ next.operand ∷ []) place no_operand)
      at (inl less) =
          subst (There place) (sym (get_or_append_left nexts (next.operand ∷ []) no_operand place (omega (arith, less, count))))
          (nexts_later keeps nexts k drawn place less)
      at (inr past) =
          let here : place ≡ k = omega (arith, past, within) in
          subst (λ i. There i (slice_index_or (nexts ++ next.operand ∷ []) i no_operand)) (sym here)
          (subst (There k) (sym (get_or_at nexts next.operand [] no_operand k count)) (next.width, last))
