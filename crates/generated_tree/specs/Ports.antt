-- The ports of each process of the generated file, as the class and the endpoint in its text say.
--
-- README.md. One receives 8 bits, which stand until the exchange of the other; the other sends 8 bits, for a cycle.
use Rattle.std.specs.Prelude.{ℕ, ◌≡◌, ◌≤◌, true, false, List, [], ◌∷◌, codes, map, replicate}
use Rattle.anvil_lexer.specs.declared.token.Token.{Token}
use Rattle.anvil_lexer.specs.TokenText.{IsTokenText}
use Rattle.anvil_tree.specs.Tree.{File}
use Rattle.anvil_grammar.specs.Grammar.{IsFile}
use Rattle.core_term.specs.Process.{Port, Cycles, Until}
use Rattle.channel_classes.specs.Classes.{classes_of}
use Rattle.core_file.specs.CoreFile.{Placed, core_file}
use Rattle.generated_file.specs.Generated.{generated}

-- `p.req`, received, until the exchange of port 1
abbrev pub req : Port
req = record { endpoint = codes "p"; message = codes "req"; received = true; width = 8; life = Until 1 ∷ [] }

-- `p.res`, sent, for one cycle
abbrev pub res : Port
res = record { endpoint = codes "p"; message = codes "res"; received = false; width = 8; life = Cycles 1 ∷ [] }

abbrev pub generated_ports : List Port
generated_ports = req ∷ res ∷ []

abbrev pub ports_in : List Placed → List (List Port)
ports_in = map (λ (placed : Placed). placed.process.ports)

-- whatever tokens and tree the file has
abbrev pub PortsAreKnown : Type 0
PortsAreKnown =
    (count : ℕ) → 1 ≤ count → count ≤ 64
    → (tokens : List Token) (file : File) → IsTokenText (generated count) tokens → IsFile tokens file
    → ports_in (core_file (classes_of file) file) ≡ replicate count generated_ports
