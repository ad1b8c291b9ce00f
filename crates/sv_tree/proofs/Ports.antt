-- A module with ports: it hands a received byte on with its two halves swapped, and between exchanges shows the last byte
-- shifted to the left. It has a slice, a concatenation, a shift and a choice.
--
-- Its text and two of its cycles come out by computing the definitions; the values written out here are worked by hand.
-- Beside it stand a module of nothing at all, and each operator as it is written.
use Rattle.std.specs.Prelude.{◌≡◌, ℕ, ◌==◌, true, false, List, [], ◌∷◌, ◌++◌, map, slice_index, codes, refl}
use Rattle.std.specs.Fmt.{digits}
use Rattle.core_term.specs.Inputs.{Inputs}
use Rattle.core_term.specs.declared.operators.BinOp.TheVariants.{Add, Sub, Mul, And, Or, Xor, Eq, Ne, Lt, Le, Gt, Ge, Shl, Shr, Cat}
use Rattle.sv_tree.specs.declared.tree.SvRef.TheVariants.{Data, Valid, Ack}
use Rattle.sv_tree.specs.declared.tree.SvOperand.TheVariants.{Ref}
use Rattle.sv_tree.specs.declared.tree.SvOp.TheVariants.{Not, Bin, Slice, Choose}
use Rattle.sv_tree.specs.declared.tree.SvOut.TheVariants.{Received, Sent}
use Rattle.sv_tree.specs.Module.{Module}
use Rattle.sv_tree.specs.WellFormed.{is_well_formed}
use Rattle.sv_tree.specs.Text.{module_text, op_text, IsTextOf}
use Rattle.sv_tree.specs.Clocked.{registers_at, outputs_at, received, sent}
use Rattle.sv_tree.specs.RegisterBits.{register_bits}
use Rattle.sv_tree.proofs.Parts.{literal, register, net, port, source, wire}

abbrev pub swap : Module
swap = record {
  proc = codes "swap";
  ports =
      port (codes "p") (codes "req") true 8
      ∷ port (codes "p") (codes "res") false 8
      ∷ [];
  regs = source (codes "last") 8 129 ∷ [];
  nets =
      wire 4 (Slice (Data 0) 7 4)
      ∷ wire 4 (Slice (Data 0) 3 0)
      ∷ wire 8 (Bin Cat (net 1) (net 0))
      ∷ wire 8 (Bin Shl (register 0) (literal 2 1))
      ∷ wire 8 (Choose (Ref (Valid 0)) (net 2) (net 3))
      ∷ [];
  outs = Received (Ref (Ack 1)) ∷ Sent (net 4) (Ref (Valid 0)) ∷ [];
  nexts = net 4 ∷ [];
}

abbrev swap_text : List ℕ
swap_text =
    codes "module anvil__swap (\n"
    ++ (codes "  input logic clk_i,\n"
    ++ (codes "  input logic rst_ni,\n"
    ++ (codes "  input logic [7:0] p__req__data,\n"
    ++ (codes "  input logic [0:0] p__req__valid,\n"
    ++ (codes "  output logic [0:0] p__req__ack,\n"
    ++ (codes "  output logic [7:0] p__res__data,\n"
    ++ (codes "  output logic [0:0] p__res__valid,\n"
    ++ (codes "  input logic [0:0] p__res__ack\n"
    ++ (codes ");\n"
    ++ (codes "  logic [7:0] last__q;\n"
    ++ (codes "  logic [3:0] n__0;\n"
    ++ (codes "  assign n__0 = p__req__data[7:4];\n"
    ++ (codes "  logic [3:0] n__1;\n"
    ++ (codes "  assign n__1 = p__req__data[3:0];\n"
    ++ (codes "  logic [7:0] n__2;\n"
    ++ (codes "  assign n__2 = {n__1, n__0};\n"
    ++ (codes "  logic [7:0] n__3;\n"
    ++ (codes "  assign n__3 = last__q << 2'd1;\n"
    ++ (codes "  logic [7:0] n__4;\n"
    ++ (codes "  assign n__4 = p__req__valid ? n__2 : n__3;\n"
    ++ (codes "  assign p__req__ack = p__res__ack;\n"
    ++ (codes "  assign p__res__data = n__4;\n"
    ++ (codes "  assign p__res__valid = p__req__valid;\n"
    ++ (codes "  always_ff @(posedge clk_i) begin\n"
    ++ (codes "    if (!rst_ni) begin\n"
    ++ (codes "      last__q <= 8'd129;\n"
    ++ (codes "    end else begin\n"
    ++ (codes "      last__q <= n__4;\n"
    ++ (codes "    end\n"
    ++ (codes "  end\n"
    ++ (codes "endmodule\n")))))))))))))))))))))))))))))))

text_of_swap : module_text swap ≡ swap_text
unfolding module_text digits
text_of_swap = refl

well_formed_swap : is_well_formed swap ≡ true
unfolding is_well_formed
well_formed_swap = refl

-- in cycle 0 the byte 3:5 without `valid`, and `ack`; in cycle 1 the byte 10:7 with `valid`, and no `ack`
abbrev partners : Inputs
partners = record {
  count = 2;
  valid = λ _ cycle. cycle == 1;
  data_at = λ _ cycle. slice_index (53 ∷ 167 ∷ []) cycle;
  ack = λ _ cycle. cycle == 0;
}

-- 129 shifted to the left in 8 bits is 2; 7:10 is 122
registers_of_swap : map (registers_at swap partners) (0 ∷ 1 ∷ 2 ∷ []) ≡ (129 ∷ []) ∷ (2 ∷ []) ∷ (122 ∷ []) ∷ []
unfolding registers_at
registers_of_swap = refl

outputs_of_swap : map (outputs_at swap partners) (0 ∷ 1 ∷ []) ≡ (received 1 ∷ sent 2 0 ∷ []) ∷ (received 0 ∷ sent 122 1 ∷ []) ∷ []
unfolding registers_at
outputs_of_swap = refl

bits_of_swap : register_bits swap ≡ 8
bits_of_swap = refl

-- a module of nothing has no block of the clock
abbrev pub nothing : Module
nothing = record { proc = codes "nothing"; ports = []; regs = []; nets = []; outs = []; nexts = [] }

text_of_nothing : module_text nothing ≡ codes "module anvil__nothing (\n  input logic clk_i,\n  input logic rst_ni\n);\nendmodule\n"
unfolding module_text
text_of_nothing = refl

-- two modules, one after the other
text_of_both : IsTextOf (module_text swap ++ module_text nothing) (swap ∷ nothing ∷ [])
unfolding module_text digits is_well_formed
text_of_both = record { well_formed = refl; names_differ = refl; written = refl }

-- each operator as it is written
written_operators :
    map (λ op. op_text nothing (Bin op (literal 2 1) (literal 2 3)))
    (Add ∷ Sub ∷ Mul ∷ And ∷ Or ∷ Xor ∷ Eq ∷ Ne ∷ Lt ∷ Le ∷ Gt ∷ Ge ∷ Shl ∷ Shr ∷ Cat ∷ [])
    ≡ codes "2'd1 + 2'd3"
    ∷ codes "2'd1 - 2'd3"
    ∷ codes "2'd1 * 2'd3"
    ∷ codes "2'd1 & 2'd3"
    ∷ codes "2'd1 | 2'd3"
    ∷ codes "2'd1 ^ 2'd3"
    ∷ codes "2'd1 == 2'd3"
    ∷ codes "2'd1 != 2'd3"
    ∷ codes "2'd1 < 2'd3"
    ∷ codes "2'd1 <= 2'd3"
    ∷ codes "2'd1 > 2'd3"
    ∷ codes "2'd1 >= 2'd3"
    ∷ codes "2'd1 << 2'd3"
    ∷ codes "2'd1 >> 2'd3"
    ∷ codes "{2'd1, 2'd3}"
    ∷ []
unfolding digits
written_operators = refl

written_complement : op_text nothing (Not (literal 64 18446744073709551615)) ≡ codes "~64'd18446744073709551615"
unfolding digits
written_complement = refl
