-- What small terms and processes are once names stand for numbers, worked out by hand from the text beside each.
use Rattle.std.proofs.Common.{◌≡◌, true, false, [], ◌∷◌, None, Some, codes, refl}
use Rattle.anvil_tree.specs.declared.expr.BinOp.TheVariants as op
use Rattle.anvil_tree.specs.declared.file.LifeText.TheVariants as text
use Rattle.anvil_tree.specs.declared.file.Side.TheVariants.{Left, Right}
use Rattle.anvil_tree.specs.Tree as tree
use Rattle.anvil_tree.specs.Tree.{literal, variable, shown, binary, unit, single, follow, beside, cycle, set, send, receive, either, block, pure, Item, class}
use Rattle.core_term.specs.declared.operators.BinOp.TheVariants as core
use Rattle.core_term.specs.Term.{Term, Lit, Var, Reg, Bin, One, Then, Both, Cycle, Set, Send, Recv, If, Block, Wait, Pure, Nothing}
use Rattle.core_term.specs.Process.{Cycles, Until}
use Rattle.channel_classes.specs.Classes.{classes_of}
use Rattle.core_file.specs.CoreTerm.{core_term}
use Rattle.core_file.specs.CoreProcess.{ports_of, register_of, scope_of}
use Rattle.core_file.proofs.ExamplePrograms.{echo, talker, byte, bit, reset_to}

-- a thread of the process with the two registers
abbrev as_core : tree.Term → Term
as_core thread = core_term (scope_of (classes_of (echo ∷ [])) (talker (byte ∷ bit ∷ []) [])) 0 thread

-- { let x = recv p.req ; x >> set r := x + *r } >> send p.res(*r) >> cycle 3
acts_in_tree_order :
    as_core (
    follow None
    (block 0 (
    beside (Some (codes "x")) (receive 0 (codes "p") 0 (codes "req") 0) (
    follow None (pure 0 (variable 0 (codes "x")))
    (single (set 0 (codes "r") 0 (binary 0 op.Add (variable 0 (codes "x")) (shown 0 (codes "r"))))))))
    (follow None (send 0 (codes "p") 0 (codes "res") 0 (shown 0 (codes "r"))) (single (cycle 0 3 0))))
    ≡ Then (Block 0 (Both (Recv 1 0) (Then (Wait 2 1) (One (Set 3 0 (Bin core.Add 8 8 (Var 1) (Reg 0)))))))
    (Then (Send 4 1 (Reg 0)) (One (Cycle 5 3)))
acts_in_tree_order = refl

-- let x = *r >> { let x = *b >> cycle 1 } >> set r := x
word_of_the_chain :
    as_core (
    follow (Some (codes "x")) (pure 0 (shown 0 (codes "r"))) (
    follow None (block 0 (follow (Some (codes "x")) (pure 0 (shown 0 (codes "b"))) (single (cycle 0 1 0))))
    (single (set 0 (codes "r") 0 (variable 0 (codes "x"))))))
    ≡ Then (Pure 0 (Reg 0)) (Then (Block 1 (Then (Pure 2 (Reg 1)) (One (Cycle 3 1)))) (One (Set 4 0 (Var 0))))
word_of_the_chain = refl

-- let x = *b >> let x = *r >> set r := x
innermost_word :
    as_core (
    follow (Some (codes "x")) (pure 0 (shown 0 (codes "b"))) (
    follow (Some (codes "x")) (pure 0 (shown 0 (codes "r")))
    (single (set 0 (codes "r") 0 (variable 0 (codes "x"))))))
    ≡ Then (Pure 0 (Reg 1)) (Then (Pure 1 (Reg 0)) (One (Set 2 0 (Var 1))))
innermost_word = refl

-- if *b { *r } else { 8'd1 } >> if *b { *r } else { cycle 1 } >> ()
sides_with_and_without_value :
    as_core (
    follow None (either 0 (shown 0 (codes "b")) (single (pure 0 (shown 0 (codes "r")))) (single (pure 0 (literal 0 8 1)))) (
    follow None (either 0 (shown 0 (codes "b")) (single (pure 0 (shown 0 (codes "r")))) (single (cycle 0 1 0)))
    (single (pure 0 (unit 0)))))
    ≡ Then (If 0 (Reg 1) (One (Pure 1 (Reg 0))) (One (Pure 2 (Lit 8 1))) true)
    (Then (If 3 (Reg 1) (One (Pure 4 (Reg 0))) (One (Cycle 5 1)) false) (One (Nothing 6)))
sides_with_and_without_value = refl

-- chan q { left m : (logic[8]@d), right d : (logic[1]@#1) }
abbrev asking : Item
asking = class (record {
  name = codes "q";
  at = 0;
  messages =
      record { toward = Left; name = codes "m"; at = 0; width = 8; width_at = 0; life = text.Until (codes "d"); life_at = 0 }
      ∷ record { toward = Right; name = codes "d"; at = 0; width = 1; width_at = 0; life = text.Cycles 1; life_at = 0 } ∷ [];
})

-- (a : left q, b : right q): ports in the order of endpoints and messages, each life with the number of a port
ports_of_two_endpoints :
    ports_of (classes_of (echo ∷ asking ∷ [])) 0
    (record { name = codes "a"; at = 0; side = Left; class = codes "q"; class_at = 0 }
    ∷ record { name = codes "b"; at = 0; side = Right; class = codes "q"; class_at = 0 } ∷ [])
    ≡ record { endpoint = codes "a"; message = codes "m"; received = true; width = 8; life = Until 1 ∷ [] }
    ∷ record { endpoint = codes "a"; message = codes "d"; received = false; width = 1; life = Cycles 1 ∷ [] }
    ∷ record { endpoint = codes "b"; message = codes "m"; received = false; width = 8; life = Until 3 ∷ [] }
    ∷ record { endpoint = codes "b"; message = codes "d"; received = true; width = 1; life = Cycles 1 ∷ [] } ∷ []
ports_of_two_endpoints = refl

-- reg a : logic[8] = 8'd5;
register_with_a_literal : register_of (reset_to 8 (Some (record { width = 8; value = 5; at = 0 }))) ≡ record {
  name =
      codes "a";
  width = 8;
  reset = 5;
}
register_with_a_literal = refl

-- reg a : logic[8];
register_without_a_literal : register_of (reset_to 8 None) ≡ record { name = codes "a"; width = 8; reset = 0 }
register_without_a_literal = refl
