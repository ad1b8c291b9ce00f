-- Small programs in which two checks fail, each with the one that comes first; and programs at a limit, on both sides of it. Worked out by
-- hand from the rules, at the places of the text beside each.
use Rattle.std.proofs.Common.{◌≡◌, ℕ, [], ◌∷◌, Option, None, Some, codes, replicate, refl}
use Rattle.anvil_tree.specs.declared.expr.BinOp.TheVariants as op
use Rattle.anvil_tree.specs.declared.file.LifeText.TheVariants as text
use Rattle.anvil_tree.specs.declared.file.Side.TheVariants.{Left}
use Rattle.anvil_tree.specs.Tree.{Name, literal, variable, shown, inverse, binary, slice, choice, unit, Term, single, follow, beside, cycle, set, send, receive, either, pure, class, process, File}
use Rattle.first_check.specs.Check.{first_refusal}
use Rattle.channel_classes.specs.Classes.{classes_of}
use Rattle.core_file.specs.declared.error.NameErr.{NameErr}
use Rattle.core_file.specs.declared.error.NameErr.TheVariants.{BadName, Twice, Unknown, TooManyPorts, BadWidth, BadCount, LiteralTooLarge, WidthDiffers, UnitUsed, WrongSide, EndpointShared, RegisterShared, NotTail}
use Rattle.core_file.specs.ProcessChecks.{checks_of_processes}
use Rattle.core_file.proofs.ExamplePrograms.{around, alone, reset_to}

-- what is refused first
abbrev refused : File → Option NameErr
refused file = first_refusal (checks_of_processes (classes_of file) file)

-- `send p.req(y)` and the like, at 161
abbrev sends : Name → Term
sends message = follow None (send 161 (codes "p") 166 message 168 (variable 172 (codes "y"))) (single (cycle 178 1 184))

-- `recv p.req >> cycle 1`
abbrev receives : Term
receives = follow None (receive 130 (codes "p") 135 (codes "req") 137) (single (cycle 144 1 150))

-- Acts.

-- loop { set r := *r } loop { set r := y }
shared_register_before_its_value :
    refused (around (single (set 130 (codes "r") 134 (shown 139 (codes "r"))) ∷ single (set 151 (codes "r") 155 (variable 160 (codes "y"))) ∷ []))
    ≡ Some (RegisterShared 151)
shared_register_before_its_value = refl

-- loop { recv p.req >> cycle 1 } loop { send p.req(y) >> cycle 1 }
side_before_shared_endpoint : refused (around (receives ∷ sends (codes "req") ∷ [])) ≡ Some (WrongSide 161)
side_before_shared_endpoint = refl

-- loop { recv p.req >> cycle 1 } loop { send p.res(y) >> cycle 1 }
shared_endpoint_before_its_value : refused (around (receives ∷ sends (codes "res") ∷ [])) ≡ Some (EndpointShared 161)
shared_endpoint_before_its_value = refl

-- loop { if *r { set r := y } else { cycle 1 } }
condition_before_sides :
    refused (around (single (either 130 (shown 133 (codes "r")) (single (set 138 (codes "r") 142 (variable 147 (codes "y")))) (single (cycle 158 1 164))) ∷ []))
    ≡ Some (WidthDiffers 130 1 8)
condition_before_sides = refl

-- loop { recv p.req } loop { set r := y }
tail_before_next_thread :
    refused (around (single (receive 130 (codes "p") 135 (codes "req") 137) ∷ single (set 150 (codes "r") 154 (variable 159 (codes "y"))) ∷ []))
    ≡ Some (NotTail 130)
tail_before_next_thread = refl

-- loop { set q := *r }
unknown_register : refused (around (single (set 130 (codes "q") 134 (shown 139 (codes "r"))) ∷ [])) ≡ Some (Unknown 134)
unknown_register = refl

-- loop { if *b { let x = *r >> cycle 1 } else { set r := x } }
word_of_the_other_side :
    refused (around (single (either 130 (shown 133 (codes "b"))
    (follow (Some (codes "x")) (pure 146 (shown 146 (codes "r"))) (single (cycle 152 1 158)))
    (single (set 169 (codes "r") 173 (variable 178 (codes "x"))))) ∷ []))
    ≡ Some (Unknown 178)
word_of_the_other_side = refl

-- Tails.

-- loop { send p.res(*r) }
send_is_no_tail : refused (around (single (send 130 (codes "p") 135 (codes "res") 137 (shown 141 (codes "r"))) ∷ [])) ≡ Some (NotTail 130)
send_is_no_tail = refl

-- loop { cycle 1 >> *r }
value_is_no_tail : refused (around (follow None (cycle 130 1 136) (single (pure 141 (shown 141 (codes "r")))) ∷ [])) ≡ Some (NotTail 141)
value_is_no_tail = refl

-- loop { recv p.req ; *r }
first_of_two_that_are_none :
    refused (around (beside None (receive 130 (codes "p") 135 (codes "req") 137) (single (pure 143 (shown 143 (codes "r")))) ∷ []))
    ≡ Some (NotTail 130)
first_of_two_that_are_none = refl

-- Expressions.

-- loop { let v = cycle 1 >> set r := v[0:0] }
slice_of_no_value :
    refused (around (follow (Some (codes "v")) (cycle 138 1 144) (single (set 149 (codes "r") 153 (slice 158 (codes "v") 0 0))) ∷ []))
    ≡ Some (UnitUsed 158)
slice_of_no_value = refl

-- loop { if () { cycle 1 } else { cycle 1 } }
condition_of_no_value :
    refused (around (single (either 130 (unit 133) (single (cycle 138 1 144)) (single (cycle 155 1 161))) ∷ []))
    ≡ Some (UnitUsed 133)
condition_of_no_value = refl

-- loop { set r := shl(*r, *b) }
shift_by_any_width : refused (around (single (set 130 (codes "r") 134 (binary 139 op.Shl (shown 143 (codes "r")) (shown 147 (codes "b")))) ∷ [])) ≡ None
shift_by_any_width = refl

-- loop { set r := ~*b ? *r : 7'd0 }
sides_of_a_choice :
    refused (around (single (set 130 (codes "r") 134 (choice 143 (inverse 139 (shown 140 (codes "b"))) (shown 145 (codes "r")) (literal 150 7 0))) ∷ []))
    ≡ Some (WidthDiffers 143 8 7)
sides_of_a_choice = refl

-- loop { set b := *r == *r }
comparison_of_one_bit : refused (around (single (set 130 (codes "b") 134 (binary 142 op.Eq (shown 139 (codes "r")) (shown 145 (codes "r")))) ∷ [])) ≡ None
comparison_of_one_bit = refl

-- loop { set r := cat(63'd0, *b) }
cat_of_the_widest :
    refused (around (single (set 130 (codes "r") 134 (binary 139 op.Cat (literal 143 63 0) (shown 150 (codes "b")))) ∷ []))
    ≡ Some (WidthDiffers 130 8 64)
cat_of_the_widest = refl

-- Processes.

-- loop { cycle 65536 }
too_long_count : refused (around (single (cycle 130 65536 136) ∷ [])) ≡ Some (BadCount 136)
too_long_count = refl

-- proc a() { reg a : logic[8] = 65'd300; }
width_of_a_literal : refused (alone (codes "a") 5 (reset_to 8 (Some (record {
  width = 65;
  value = 300;
  at =
      30;
})) ∷ []) [] ∷ []) ≡ Some (BadWidth 30)
width_of_a_literal = refl

-- proc a() { reg a : logic[8] = 7'd128; }
value_before_widths : refused (alone (codes "a") 5 (reset_to 8 (Some (record {
  width = 7;
  value = 128;
  at =
      30;
})) ∷ []) [] ∷ []) ≡ Some (LiteralTooLarge 30)
value_before_widths = refl

-- proc a() { reg a : logic[0]; reg a : logic[8]; }
first_register_first :
    refused (alone (codes "a") 5 (reset_to 0 None ∷ record {
      name = codes "a";
      at = 35;
      width = 8;
      width_at = 45;
      reset =
          None;
    } ∷ []) [] ∷ [])
    ≡ Some (BadWidth 25)
first_register_first = refl

-- proc a() { reg a : logic[8]; reg a : logic[0]; }
register_twice :
    refused (alone (codes "a") 5 (reset_to 8 None ∷ record {
      name = codes "a";
      at = 35;
      width = 0;
      width_at = 45;
      reset =
          None;
    } ∷ []) [] ∷ [])
    ≡ Some (Twice 35)
register_twice = refl

-- a class of so many messages, all of which have one name, which is no matter here; and `proc a(p : left c, q : left c) { }`
abbrev two_of : ℕ → File
two_of count =
    class (record {
      name = codes "c";
      at = 0;
      messages = replicate count (record {
        toward = Left;
        name = codes "m";
        at = 0;
        width = 1;
        width_at = 0;
        life =
            text.Cycles 1;
        life_at = 0;
      });
    })
    ∷ process (record {
      name = codes "a";
      at = 5;
      endpoints =
          record { name = codes "p"; at = 7; side = Left; class = codes "c"; class_at = 16 }
          ∷ record { name = codes "q"; at = 19; side = Left; class = codes "c"; class_at = 28 } ∷ [];
      registers = record { name = codes "r_"; at = 40; width = 8; width_at = 50; reset = None } ∷ [];
      threads = [];
    })
    ∷ []

-- 66 ports, and a register with a bad name
ports_past_the_limit : refused (two_of 33) ≡ Some (TooManyPorts 19)
ports_past_the_limit = refl

-- 64 ports
ports_at_the_limit : refused (two_of 32) ≡ Some (BadName 40)
ports_at_the_limit = refl
