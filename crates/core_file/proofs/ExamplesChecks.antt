-- Small programs, each with the first refusal of its processes, worked out apart from these definitions. The places
-- are those of the text beside each. They show: operands come before their node, from left to right; an inner
-- variable hides an outer one, and no longer than its chain; a side without a value makes the `if` have none; a wait
-- may be of no value; the walk of a thread comes before its tail; a thread may set its register twice, and another
-- may not; counts, widths and literals at their limits.
use Rattle.std.proofs.Common.{◌≡◌, [], ◌∷◌, Option, None, Some, codes, refl}
use Rattle.anvil_tree.specs.declared.expr.BinOp.TheVariants as op
use Rattle.anvil_tree.specs.declared.file.Side.TheVariants.{Left}
use Rattle.anvil_tree.specs.Tree.{literal, variable, shown, binary, slice, choice, unit, single, follow, beside, cycle, set, send, receive, when, either, block, pure, process, File}
use Rattle.first_check.specs.Check.{first_refusal}
use Rattle.channel_classes.specs.Classes.{classes_of}
use Rattle.core_file.specs.declared.error.NameErr.{NameErr}
use Rattle.core_file.specs.declared.error.NameErr.TheVariants.{BadName, Twice, Unknown, BadWidth, BadCount, LiteralTooLarge, WidthDiffers, UnitUsed, WrongSide, EndpointShared, RegisterShared, NotTail}
use Rattle.core_file.specs.ProcessChecks.{checks_of_processes}
use Rattle.core_file.proofs.ExamplePrograms.{echo, talker, byte, around, alone, reset_to}

-- what is refused first
abbrev refused : File → Option NameErr
refused file = first_refusal (checks_of_processes (classes_of file) file)

-- Threads of one process.

-- loop { { let x = recv p.req ; set r := x } }
block_tail :
    refused (around (single (block 130 (beside (Some (codes "x")) (receive 140 (codes "p") 145 (codes "req") 147) (single (set 153 (codes "r") 157 (variable 162 (codes "x")))))) ∷ []))
    ≡ Some (NotTail 140)
block_tail = refl

-- loop { set r := (*r + 1'd1) + y }
operands_first :
    refused (around (single (set 130 (codes "r") 134 (binary 151 op.Add (binary 143 op.Add (shown 140 (codes "r")) (literal 145 1 1)) (variable 153 (codes "y")))) ∷ []))
    ≡ Some (WidthDiffers 143 8 1)
operands_first = refl

-- loop { set r := y + (*r + 1'd1) }
left_operand_first :
    refused (around (single (set 130 (codes "r") 134 (binary 141 op.Add (variable 139 (codes "y")) (binary 147 op.Add (shown 144 (codes "r")) (literal 149 1 1)))) ∷ []))
    ≡ Some (Unknown 139)
left_operand_first = refl

-- loop { set r := *b }
set_differs :
    refused (around (single (set 130 (codes "r") 134 (shown 139 (codes "b"))) ∷ []))
    ≡ Some (WidthDiffers 130 8 1)
set_differs = refl

-- loop { send p.res(*b) >> cycle 1 }
send_differs :
    refused (around (follow None (send 130 (codes "p") 135 (codes "res") 137 (shown 141 (codes "b"))) (single (cycle 148 1 154)) ∷ []))
    ≡ Some (WidthDiffers 130 8 1)
send_differs = refl

-- loop { if *r { set r := *r } else { set r := *r } }
condition_differs :
    refused (around (single (either 130 (shown 133 (codes "r")) (single (set 138 (codes "r") 142 (shown 147 (codes "r")))) (single (set 159 (codes "r") 163 (shown 168 (codes "r"))))) ∷ []))
    ≡ Some (WidthDiffers 130 1 8)
condition_differs = refl

-- loop { if *b { *r } else { *b } >> cycle 1 }
sides_differ :
    refused (around (follow None (either 130 (shown 133 (codes "b")) (single (pure 138 (shown 138 (codes "r")))) (single (pure 150 (shown 150 (codes "b"))))) (single (cycle 158 1 164)) ∷ []))
    ≡ Some (WidthDiffers 130 8 1)
sides_differ = refl

-- loop { let v = if *b { *r } else { cycle 1 } >> set r := v }
one_side_unit :
    refused (around (follow (Some (codes "v")) (either 138 (shown 141 (codes "b")) (single (pure 146 (shown 146 (codes "r")))) (single (cycle 158 1 164))) (single (set 171 (codes "r") 175 (variable 180 (codes "v")))) ∷ []))
    ≡ Some (UnitUsed 180)
one_side_unit = refl

-- loop { let v = cycle 1 >> v >> cycle 1 }
unit_wait :
    refused (around (follow (Some (codes "v")) (cycle 138 1 144) (follow None (pure 149 (variable 149 (codes "v"))) (single (cycle 154 1 160))) ∷ []))
    ≡ None
unit_wait = refl

-- loop { set r := *r + () }
unit_in_expression :
    refused (around (single (set 130 (codes "r") 134 (binary 142 op.Add (shown 139 (codes "r")) (unit 144))) ∷ []))
    ≡ Some (UnitUsed 144)
unit_in_expression = refl

-- loop { () >> cycle 1 }
unit_alone :
    refused (around (follow None (pure 130 (unit 130)) (single (cycle 136 1 142)) ∷ []))
    ≡ None
unit_alone = refl

-- loop { let x = *b >> let x = *r >> set r := x }
innermost :
    refused (around (follow (Some (codes "x")) (pure 138 (shown 138 (codes "b"))) (follow (Some (codes "x")) (pure 152 (shown 152 (codes "r"))) (single (set 158 (codes "r") 162 (variable 167 (codes "x"))))) ∷ []))
    ≡ None
innermost = refl

-- loop { let x = *r >> { let x = *b >> cycle 1 } >> set r := x }
hidden_again :
    refused (around (follow (Some (codes "x")) (pure 138 (shown 138 (codes "r"))) (follow None (block 144 (follow (Some (codes "x")) (pure 154 (shown 154 (codes "b"))) (single (cycle 160 1 166)))) (single (set 173 (codes "r") 177 (variable 182 (codes "x"))))) ∷ []))
    ≡ None
hidden_again = refl

-- loop { let x = x >> cycle 1 }
not_yet_bound :
    refused (around (follow (Some (codes "x")) (pure 138 (variable 138 (codes "x"))) (single (cycle 143 1 149)) ∷ []))
    ≡ Some (Unknown 138)
not_yet_bound = refl

-- loop { let x = *r >> set r := x[8:1] }
slice_too_high :
    refused (around (follow (Some (codes "x")) (pure 138 (shown 138 (codes "r"))) (single (set 144 (codes "r") 148 (slice 153 (codes "x") 8 1))) ∷ []))
    ≡ Some (BadWidth 153)
slice_too_high = refl

-- loop { let x = *r >> set r := x[7:0] }
slice_fits :
    refused (around (follow (Some (codes "x")) (pure 138 (shown 138 (codes "r"))) (single (set 144 (codes "r") 148 (slice 153 (codes "x") 7 0))) ∷ []))
    ≡ None
slice_fits = refl

-- loop { set r := cat(64'd0, *b) }
cat_too_wide :
    refused (around (single (set 130 (codes "r") 134 (binary 139 op.Cat (literal 143 64 0) (shown 150 (codes "b")))) ∷ []))
    ≡ Some (BadWidth 139)
cat_too_wide = refl

-- loop { set r := *r ? *r : *b }
choice_of_condition :
    refused (around (single (set 130 (codes "r") 134 (choice 142 (shown 139 (codes "r")) (shown 144 (codes "r")) (shown 149 (codes "b")))) ∷ []))
    ≡ Some (WidthDiffers 142 1 8)
choice_of_condition = refl

-- loop { send p.req(*r) >> cycle 1 }
wrong_side :
    refused (around (follow None (send 130 (codes "p") 135 (codes "req") 137 (shown 141 (codes "r"))) (single (cycle 148 1 154)) ∷ []))
    ≡ Some (WrongSide 130)
wrong_side = refl

-- loop { recv p.nix >> cycle 1 }
unknown_message :
    refused (around (follow None (receive 130 (codes "p") 135 (codes "nix") 137) (single (cycle 144 1 150)) ∷ []))
    ≡ Some (Unknown 137)
unknown_message = refl

-- loop { recv q.req >> cycle 1 }
unknown_endpoint :
    refused (around (follow None (receive 130 (codes "q") 135 (codes "req") 137) (single (cycle 144 1 150)) ∷ []))
    ≡ Some (Unknown 135)
unknown_endpoint = refl

-- loop { set r := *r } loop { cycle 1 >> set r := *b }
register_shared :
    refused (around ((single (set 130 (codes "r") 134 (shown 139 (codes "r")))) ∷ (follow None (cycle 151 1 157) (single (set 162 (codes "r") 166 (shown 171 (codes "b"))))) ∷ []))
    ≡ Some (RegisterShared 162)
register_shared = refl

-- loop { recv p.req >> cycle 1 } loop { send p.res(*b) >> cycle 1 }
endpoint_shared :
    refused (around ((follow None (receive 130 (codes "p") 135 (codes "req") 137) (single (cycle 144 1 150))) ∷ (follow None (send 161 (codes "p") 166 (codes "res") 168 (shown 172 (codes "b"))) (single (cycle 179 1 185))) ∷ []))
    ≡ Some (EndpointShared 161)
endpoint_shared = refl

-- loop { set r := *r >> set r := *r }
set_twice_in_one :
    refused (around (follow None (set 130 (codes "r") 134 (shown 139 (codes "r"))) (single (set 145 (codes "r") 149 (shown 154 (codes "r")))) ∷ []))
    ≡ None
set_twice_in_one = refl

-- loop { let x = set r := *r ; cycle 1 }
bound_beside :
    refused (around (beside (Some (codes "x")) (set 138 (codes "r") 142 (shown 147 (codes "r"))) (single (cycle 152 1 158)) ∷ []))
    ≡ Some (NotTail 138)
bound_beside = refl

-- loop { if *b { cycle 1 } }
if_without_else :
    refused (around (single (when 130 (shown 133 (codes "b")) (single (cycle 138 1 144))) ∷ []))
    ≡ Some (NotTail 130)
if_without_else = refl

-- loop { recv p.req ; set r := y }
walk_before_tail :
    refused (around (beside None (receive 130 (codes "p") 135 (codes "req") 137) (single (set 143 (codes "r") 147 (variable 152 (codes "y")))) ∷ []))
    ≡ Some (Unknown 152)
walk_before_tail = refl

-- loop { cycle 0 }
bad_count :
    refused (around (single (cycle 130 0 136) ∷ []))
    ≡ Some (BadCount 136)
bad_count = refl

-- loop { cycle 65535 }
longest_count :
    refused (around (single (cycle 130 65535 136) ∷ []))
    ≡ None
longest_count = refl

-- Whole files.

-- proc t() { reg a : logic[8]; loop { set a := 8'd1 ; set a := 8'd2 } }
both_set_one_register :
    refused (alone (codes "t") 5 (reset_to 8 None ∷ []) (beside None (set 36 (codes "a") 40 (literal 45 8 1)) (single (set 52 (codes "a") 56 (literal 61 8 2))) ∷ []) ∷ [])
    ≡ None
both_set_one_register = refl

-- chan ch { .. } proc p(p : left ch) { loop { recv p.req } }
receive_is_no_tail : refused (echo ∷ process (talker [] (single (receive 94 (codes "p") 99 (codes "req") 101) ∷ [])) ∷ []) ≡ Some (NotTail 94)
receive_is_no_tail = refl

-- chan ch { .. } proc p(p : left ch) { reg r : logic[8]; loop { { let x = recv p.req ; set r := x } >> send p.res(*r)
-- >> cycle 1 } }
echo_through_a_register :
    refused (echo ∷ process (talker (byte ∷ []) (
    follow None (block 112 (beside (Some (codes "x")) (receive 122 (codes "p") 127 (codes "req") 129) (single (set 135 (codes "r") 139 (variable 144 (codes "x"))))))
    (follow None (send 151 (codes "p") 156 (codes "res") 158 (shown 162 (codes "r"))) (single (cycle 169 1 175))) ∷ [])) ∷ [])
    ≡ None
echo_through_a_register = refl

-- proc l() { reg a : logic[64] = 64'd18446744073709551616; }
literal_of_two_to_the_width :
    refused (alone (codes "l") 5 (reset_to 64 (Some (record { width = 64; value = 18446744073709551616; at = 31 })) ∷ []) [] ∷ [])
    ≡ Some (LiteralTooLarge 31)
literal_of_two_to_the_width = refl

-- proc a() { reg a : logic[8] = 7'd1; }
reset_differs : refused (alone (codes "a") 5 (reset_to 8 (Some (record {
  width = 7;
  value = 1;
  at =
      30;
})) ∷ []) [] ∷ []) ≡ Some (WidthDiffers 30 8 7)
reset_differs = refl

-- proc a() { reg a : logic[65]; }
register_too_wide : refused (alone (codes "a") 5 (reset_to 65 None ∷ []) [] ∷ []) ≡ Some (BadWidth 25)
register_too_wide = refl

-- proc a() { } proc a() { }
process_twice : refused (alone (codes "a") 5 [] [] ∷ alone (codes "a") 18 [] [] ∷ []) ≡ Some (Twice 18)
process_twice = refl

-- proc a_() { } proc a_() { }
bad_name_twice : refused (alone (codes "a_") 5 [] [] ∷ alone (codes "a_") 19 [] [] ∷ []) ≡ Some (BadName 5)
bad_name_twice = refl

-- proc a(p : left ch) { }
unknown_class :
    refused (process (record {
      name = codes "a";
      at = 5;
      endpoints = record { name = codes "p"; at = 7; side = Left; class = codes "ch"; class_at = 16 } ∷ [];
      registers = [];
      threads = [];
    }) ∷ [])
    ≡ Some (Unknown 16)
unknown_class = refl
