-- The law: the bytes of the file are its characters, so its tokens are of the kinds that are read of them; and of these kinds the grammar reads one file,
-- whose processes have the ports.
use Rattle.std.proofs.Common.{◌≡◌, ℕ, ◌≤◌, List, [], ◌∷◌, ◌++◌, refl, ap, sym, ◌∙◌}
use Rattle.std.proofs.lemmas.Str.{chars-IsAscii}
use Rattle.anvil_lexer.specs.declared.token.Token.{Token}
use Rattle.anvil_lexer.specs.declared.token.TokenKind.TheVariants.{End}
use Rattle.anvil_lexer.specs.TokenText.{IsTokenText}
use Rattle.anvil_grammar.specs.State.{start}
use Rattle.anvil_grammar.specs.Step.{Walk, walk}
use Rattle.anvil_grammar.proofs.Walked.File.{file_walked}
use Rattle.generated_file.specs.Generated.{generated}
use Rattle.generated_tree.specs.Ports.{PortsAreKnown}
use Rattle.generated_tree.proofs.Reading.{IsLeft, end_is_left, kinds_of}
use Rattle.generated_tree.proofs.Lines.{file_kinds, file_read}
use Rattle.generated_tree.proofs.Placed.{placed, place_in, long_in, tokens_placed}
use Rattle.generated_tree.proofs.Walked.{file_ports}
use Rattle.generated_tree.proofs.Ascii.{generated_ascii}

kinds_are : (count : ℕ) → count ≤ 64 → (tokens : List Token) → IsTokenText (generated count) tokens → kinds_of tokens ≡ file_kinds count ++ End ∷ []
kinds_are count few tokens text =
    let left : IsLeft (generated count) (generated count) tokens =
    (0, text.0, chars-IsAscii (generated count) (generated_ascii count few), text.1) in
    let read = file_read count few (generated count) tokens left in
    read.joined ∙ ap (λ rest. file_kinds count ++ rest) (end_is_left (generated count) read.later (10 ∷ []) read.left refl)

pub ports_are_known : PortsAreKnown
ports_are_known count some few tokens file text is =
    let kinds = kinds_are count few tokens text in
    let placed_are : tokens ≡ placed (place_in tokens) (long_in tokens) (file_kinds count ++ End ∷ []) =
    tokens_placed tokens ∙ ap (λ l. placed (place_in tokens) (long_in tokens) l) kinds in
    file_ports count file (place_in tokens) (long_in tokens)
    (ap (λ l. (walk start l).stop) (sym placed_are) ∙ ap (λ (w : Walk). w.stop) (file_walked is))
