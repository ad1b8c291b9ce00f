-- The text of a log: one line for each cycle, ended by a line feed.
--
-- A line has for each port `E.M=vVaAdD`, with the valid, the ack and the data of the cycle, then for each register
-- `R=D`, all with one space between. Numbers are decimal. The data of a sent port that is neither offered nor in the
-- life of one of its exchanges is `-`. It is a text of wires and registers, so it serves the source run and the run of
-- a module.
use Rattle.std.specs.Prelude.{ℕ, ◌+◌, ◌&&◌, ◌||◌, Bool, true, false, List, [], ◌∷◌, ◌++◌, nat_lt, codes, decimal, zero}
use Rattle.std.specs.Prelude.{suc, Option, Some, None}
use Rattle.core_term.specs.Process.{LifeEnd, Port, Register, Process}
use Rattle.core_term.specs.Wires.{Wires}
use Rattle.core_term.specs.Outputs.{alive, latest}

-- whether there is an exchange of the port m in cycle t
abbrev pub exchanged : Wires → ℕ → ℕ → Bool
exchanged wires m t = nat_lt t wires.count && (wires.valid m t && wires.ack m t)

abbrev pub lives : Wires → List LifeEnd → ℕ → Option ℕ → Bool
lives wires life t None = false
lives wires life t (Some u) = alive (exchanged wires) life u t

-- whether the port m is offered in cycle t or in the life of an exchange: if of any, then of its latest
abbrev pub is_shown : Wires → List LifeEnd → ℕ → ℕ → Bool
is_shown wires life m t = wires.valid m t || lives wires life t (latest (exchanged wires m) t)

abbrev pub bit_text : Bool → List ℕ
bit_text true = codes "1"
bit_text false = codes "0"

abbrev pub data_text : (received shown : Bool) → ℕ → List ℕ
data_text true shown n = decimal n
data_text false true n = decimal n
data_text false false n = codes "-"

abbrev pub port_text : Wires → ℕ → ℕ → Port → List ℕ
port_text wires t m port =
    port.endpoint
    ++ (codes "."
    ++ (port.message
    ++ (codes "=v"
    ++ (bit_text (wires.valid m t)
    ++ (codes "a"
    ++ (bit_text (wires.ack m t)
    ++ (codes "d" ++ data_text port.received (is_shown wires port.life m t) (wires.data_at m t))))))))

abbrev pub register_text : (ℕ → ℕ → ℕ) → ℕ → ℕ → Register → List ℕ
register_text registers t r register = register.name ++ (codes "=" ++ decimal (registers t r))

-- of the ports, and of the registers, from a number on
abbrev pub port_texts : Wires → ℕ → ℕ → List Port → List (List ℕ)
port_texts wires t m [] = []
port_texts wires t m (port ∷ ports) = port_text wires t m port ∷ port_texts wires t (m + 1) ports

abbrev pub register_texts : (ℕ → ℕ → ℕ) → ℕ → ℕ → List Register → List (List ℕ)
register_texts history t r [] = []
register_texts history t r (register ∷ registers) =
    register_text history t r register ∷ register_texts history t (r + 1) registers

-- with one space between
abbrev pub spaced : List (List ℕ) → List ℕ
spaced [] = []
spaced (text ∷ []) = text
spaced (text ∷ next ∷ rest) = text ++ (codes " " ++ spaced (next ∷ rest))

abbrev pub log_line : Process → Wires → (ℕ → ℕ → ℕ) → ℕ → List ℕ
log_line p wires registers t =
    spaced (port_texts wires t 0 p.ports ++ register_texts registers t 0 p.registers) ++ codes "\n"

-- the lines of the n cycles from t on
abbrev pub log_text : Process → Wires → (ℕ → ℕ → ℕ) → ℕ → ℕ → List ℕ
log_text p wires registers t zero = []
log_text p wires registers t (suc n) = log_line p wires registers t ++ log_text p wires registers (t + 1) n
