-- Lines that are always the same come to the text that has been read, as `TextKept` says of all lines.
use Rattle.std.proofs.Common.{◌≡◌, ℕ, List, [], ◌∷◌, ◌++◌, Some, refl, append_assoc, append-nil}
use Rattle.std.specs.Prelude.{codes, bytes_eq}
use Rattle.sv_tree.specs.Module.{Module}
use Rattle.sv_tree.specs.Text.{module_text}
use Rattle.sv_lines.specs.State.{Wanted, clock_wanted, reset_wanted, closing_wanted, item_wanted, test_wanted, resets_wanted, nexts_wanted, end_wanted, last_wanted, header_text, draft_text}
use Rattle.sv_lines.specs.Step.{Reached, onward, finished, fixed}
use Rattle.sv_lines.proofs.read.Decided.{passes, bytes_same}
use Rattle.sv_lines.proofs.read.SameTexts.{zip_none}
use Rattle.sv_lines.specs.Good.{IsHeader}

abbrev pub reached_text : Reached → List ℕ
reached_text (onward tree here) = draft_text tree here
reached_text (finished tree) = module_text tree

-- the text and one line more
abbrev pub with_line : List ℕ → List ℕ → List ℕ
with_line text line = text ++ (line ++ (10 ∷ []))

-- Lines that are always the same.

pub record IsFixed (wanted : List ℕ) (tree : Module) (next : Wanted) (line : List ℕ) (reached : Reached) : Type 0 where
  pub same : line ≡ wanted
  pub comes : onward tree next ≡ reached

pub fixed_read : (wanted : List ℕ) (tree : Module) (next : Wanted) (line : List ℕ) (reached : Reached) → fixed wanted tree next line ≡ Some reached → IsFixed wanted tree next line reached
fixed_read wanted tree next line reached e =
    let passed = passes (bytes_eq line wanted) (onward tree next) reached e in
    record { same = bytes_same line wanted passed.holds; comes = passed.same }

pub fixed_kept : (wanted : List ℕ) (tree : Module) (here next : Wanted) (line : List ℕ) (reached : Reached) → draft_text tree next ≡ with_line (draft_text tree here) wanted
    → fixed wanted tree next line ≡ Some reached → reached_text reached ≡ with_line (draft_text tree here) line
fixed_kept wanted tree here next line reached text e =
    let read = fixed_read wanted tree next line reached e in
    rw (← read.comes, read.same) text

pub clock_text : (tree : Module) → draft_text tree reset_wanted ≡ with_line (draft_text tree clock_wanted) (codes "  input logic clk_i,")
unfolding draft_text
clock_text tree = simp append_assoc

pub closing_text : (tree : Module) → IsHeader tree → draft_text tree item_wanted ≡ with_line (draft_text tree closing_wanted) (codes ");")
unfolding draft_text
closing_text tree header = rw (header.no_regs, header.no_nets, header.no_outs, zip_none tree.ports) (grouped (header_text tree) (codes "\n") (codes ");\n"))
  where
    grouped : (a b c : List ℕ) → (a ++ (b ++ c)) ++ [] ≡ (a ++ b) ++ c
    grouped a b c = simp (append_assoc, append-nil)

pub test_text : (tree : Module) → draft_text tree (resets_wanted 0) ≡ with_line (draft_text tree test_wanted) (codes "    if (!rst_ni) begin")
unfolding draft_text
test_text tree = simp (append_assoc, append-nil)

pub end_text : (tree : Module) → draft_text tree last_wanted ≡ with_line (draft_text tree end_wanted) (codes "  end")
unfolding draft_text
end_text tree = simp append_assoc

pub nexts_end_text : (tree : Module) → draft_text tree end_wanted ≡ with_line (draft_text tree nexts_wanted) (codes "    end")
unfolding draft_text
nexts_end_text tree = refl
