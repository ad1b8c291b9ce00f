-- Small programs for examples: a class of two messages, and a process that has a left endpoint of it. Places are
-- those of the text.
use Rattle.std.proofs.Common.{List, [], ◌∷◌, Option, None, ℕ, codes}
use Rattle.anvil_tree.specs.declared.file.LiteralText.{LiteralText}
use Rattle.anvil_tree.specs.declared.file.Register.{Register}
use Rattle.anvil_tree.specs.declared.file.Side.TheVariants.{Left, Right}
use Rattle.anvil_tree.specs.declared.file.LifeText.TheVariants as text
use Rattle.anvil_tree.specs.Tree.{Name, Term, Process, Item, class, process, File}

-- `chan ch { left req : (logic[8]@res), right res : (logic[8]@#1) }`
abbrev pub echo : Item
echo = class (record {
  name = codes "ch";
  at = 5;
  messages =
      record {
        toward = Left;
        name = codes "req";
        at = 15;
        width = 8;
        width_at = 28;
        life =
            text.Until (codes "res");
        life_at = 31;
      }
      ∷ record { toward = Right; name = codes "res"; at = 43; width = 8; width_at = 56; life = text.Cycles 1; life_at = 60 } ∷ [];
})

-- `proc p(p : left ch) { .. }`
abbrev pub talker : List Register → List Term → Process
talker registers threads = record {
  name = codes "p";
  at = 70;
  endpoints = record { name = codes "p"; at = 72; side = Left; class = codes "ch"; class_at = 81 } ∷ [];
  registers = registers;
  threads = threads;
}

-- `reg r : logic[8];` and `reg b : logic[1];`
abbrev pub byte : Register
byte = record { name = codes "r"; at = 91; width = 8; width_at = 101; reset = None }

abbrev pub bit : Register
bit = record { name = codes "b"; at = 109; width = 1; width_at = 119; reset = None }

-- the class, and a process of it with both registers and the threads
abbrev pub around : List Term → File
around threads = echo ∷ process (talker (byte ∷ bit ∷ []) threads) ∷ []

-- `proc NAME() { .. }`
abbrev pub alone : Name → ℕ → List Register → List Term → Item
alone name at registers threads =
    process (record { name = name; at = at; endpoints = []; registers = registers; threads = threads })

-- `reg a : logic[WIDTH] = LITERAL;`
abbrev pub reset_to : ℕ → Option LiteralText → Register
reset_to width reset = record { name = codes "a"; at = 15; width = width; width_at = 25; reset = reset }
