-- The ports of the file's processes, from the kinds of its tokens: the reading of the grammar goes over the line of the channel and over each
-- line of a process by computing, wherever their tokens stand, and comes to the class, and to one process more with one endpoint.
use Rattle.std.proofs.Common.{◌≡◌, ℕ, zero, suc, ◌+◌, List, [], ◌∷◌, ◌++◌, codes, flat_map, replicate, refl, ap, sym, ◌∙◌, append_assoc, append-nil}
use Rattle.std.specs.List.{range_with_len}
use Rattle.anvil_lexer.specs.declared.token.TokenKind.TheVariants.{End}
use Rattle.anvil_tree.specs.declared.file.Side.TheVariants.{Left, Right}
use Rattle.anvil_tree.specs.Tree as tree
use Rattle.anvil_tree.specs.Tree.{File, Process}
use Rattle.anvil_grammar.specs.State.{between, ended, start}
use Rattle.anvil_grammar.specs.Step.{stands, walk}
use Rattle.channel_classes.specs.declared.message.ClassLife.TheVariants.{Cycles, Until}
use Rattle.channel_classes.specs.declared.message.ClassMessage.{ClassMessage}
use Rattle.channel_classes.specs.Classes.{Class, classes_of, known_class}
use Rattle.core_file.specs.CoreFile.{core_file}
use Rattle.core_file.specs.CoreProcess.{messages_in, ports_of}
use Rattle.generated_tree.specs.Ports.{generated_ports, ports_in}
use Rattle.generated_tree.proofs.Lines.{file_kinds, line_kinds}
use Rattle.generated_tree.proofs.Placed.{placed}

-- one process more
ports_more : (classes : List Class) (items : File) (p : Process)
    → ports_in (core_file classes (items ++ tree.process p ∷ [])) ≡ ports_in (core_file classes items) ++ ports_of classes 0 p.endpoints ∷ []
ports_more classes [] p = refl
ports_more classes (tree.class c ∷ items) p = ports_more classes items p
ports_more classes (tree.process other ∷ items) p = ap (λ ports. ports_of classes 0 other.endpoints ∷ ports) (ports_more classes items p)

classes_more : (items : File) (p : Process) → classes_of (items ++ tree.process p ∷ []) ≡ classes_of items
classes_more [] p = refl
classes_more (tree.class c ∷ items) p = ap (λ classes. known_class c ∷ classes) (classes_more items p)
classes_more (tree.process other ∷ items) p = classes_more items p

-- the messages of the channel
abbrev messages : List ClassMessage
messages =
    record { name = codes "req"; toward = Left; width = 8; life = Until 1 }
    ∷ record { name = codes "res"; toward = Right; width = 8; life = Cycles 1 } ∷ []

-- what the lines of so many processes add to the items that are read
abbrev Adds : ℕ → (items file : File) → Type 0
Adds count items file =
    (classes_of file ≡ classes_of items)
    × ((classes : List Class) → messages_in classes (codes "ch") ≡ messages
    → ports_in (core_file classes file) ≡ ports_in (core_file classes items) ++ replicate count generated_ports)

-- the lines of one process more, from its ports
adds_one : (count : ℕ) (items file : File) (p : Process)
    → ((classes : List Class) → messages_in classes (codes "ch") ≡ messages → ports_of classes 0 p.endpoints ≡ generated_ports)
    → Adds count (items ++ tree.process p ∷ []) file → Adds (suc count) items file
adds_one count items file p of_one adds = (
  adds.0 ∙ classes_more items p,
  λ classes known.
      adds.1 classes known
      ∙ ap (λ ports. ports ++ replicate count generated_ports)
      (ports_more classes items p ∙ ap (λ ports. ports_in (core_file classes items) ++ ports ∷ []) (of_one classes known))
      ∙ append_assoc (ports_in (core_file classes items)) (generated_ports ∷ []) (replicate count generated_ports),
)

same_items : (items file : File) → stands (ended items) ≡ stands (ended file) → file ≡ items
same_items items file same = cc

lines_walked : (from count : ℕ) (items file : File) (place long : ℕ → ℕ)
    → (walk (between items) (placed place long (flat_map line_kinds (range_with_len from count) ++ End ∷ []))).stop ≡ stands (ended file)
    → Adds count items file
lines_walked from zero items file place long walked =
    let same = same_items items file walked in (
      ap classes_of same,
      λ classes known. ap (λ (f : File). ports_in (core_file classes f)) same ∙ sym (append-nil (ports_in (core_file classes items))),
    )
lines_walked from (suc count) items file place long walked =
    adds_one count items file _ (λ classes known. rw known refl) (lines_walked (from + 1) count _ file _ _ walked)

pub file_ports : (count : ℕ) (file : File) (place long : ℕ → ℕ)
    → (walk start (placed place long (file_kinds count ++ End ∷ []))).stop ≡ stands (ended file)
    → ports_in (core_file (classes_of file) file) ≡ replicate count generated_ports
file_ports count file place long walked =
    let lines = lines_walked 0 count _ file _ _ walked in
    lines.1 (classes_of file) (ap (λ classes. messages_in classes (codes "ch")) lines.0)
