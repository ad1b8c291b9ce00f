-- A sample: the module of a process with one register `a`, which adds 1 to it in cycle 0 and every third cycle after.
--
-- Its text, its well-formedness, its runs and its state bits come out by computing the definitions, and are what they are
-- written out to be here. It is no module of the compiler's, which may write other nets and states.
use Rattle.std.specs.Prelude.{◌≡◌, ℕ, true, false, List, [], ◌∷◌, ◌++◌, map, slice_index, codes, refl}
use Rattle.std.specs.Fmt.{digits}
use Rattle.core_term.specs.Inputs.{Inputs}
use Rattle.core_term.specs.declared.operators.BinOp.TheVariants.{Add, Sub, Or, Eq, Ne}
use Rattle.sv_tree.specs.declared.tree.SvOp.TheVariants.{Not, Bin, Choose}
use Rattle.sv_tree.specs.Module.{Module}
use Rattle.sv_tree.specs.WellFormed.{is_well_formed}
use Rattle.sv_tree.specs.Text.{module_text}
use Rattle.sv_tree.specs.Clocked.{registers_at}
use Rattle.sv_tree.specs.RegisterBits.{register_bits}
use Rattle.sv_tree.proofs.Parts.{literal, register, net, source, state, wire}

abbrev pub sample : Module
sample = record {
  proc = codes "c";
  ports = [];
  regs =
      source (codes "a") 8 0
      ∷ state 0 1
      ∷ state 1 1
      ∷ state 2 2
      ∷ [];
  nets =
      wire 1 (Bin Eq (register 3) (literal 2 1))
      ∷ wire 1 (Not (register 1))
      ∷ wire 1 (Bin Or (net 0) (net 1))
      ∷ wire 8 (Bin Add (register 0) (literal 8 1))
      ∷ wire 8 (Choose (net 2) (net 3) (register 0))
      ∷ wire 1 (Bin Ne (register 3) (literal 2 0))
      ∷ wire 2 (Bin Sub (register 3) (literal 2 1))
      ∷ wire 2 (Choose (net 5) (net 6) (literal 2 0))
      ∷ wire 2 (Choose (register 2) (literal 2 2) (net 7))
      ∷ [];
  outs = [];
  nexts = net 4 ∷ literal 1 1 ∷ net 2 ∷ net 8 ∷ [];
}

abbrev sample_text : List ℕ
sample_text =
    codes "module anvil__c (\n"
    ++ (codes "  input logic clk_i,\n"
    ++ (codes "  input logic rst_ni\n"
    ++ (codes ");\n"
    ++ (codes "  logic [7:0] a__q;\n"
    ++ (codes "  logic [0:0] s__0;\n"
    ++ (codes "  logic [0:0] s__1;\n"
    ++ (codes "  logic [1:0] s__2;\n"
    ++ (codes "  logic [0:0] n__0;\n"
    ++ (codes "  assign n__0 = s__2 == 2'd1;\n"
    ++ (codes "  logic [0:0] n__1;\n"
    ++ (codes "  assign n__1 = ~s__0;\n"
    ++ (codes "  logic [0:0] n__2;\n"
    ++ (codes "  assign n__2 = n__0 | n__1;\n"
    ++ (codes "  logic [7:0] n__3;\n"
    ++ (codes "  assign n__3 = a__q + 8'd1;\n"
    ++ (codes "  logic [7:0] n__4;\n"
    ++ (codes "  assign n__4 = n__2 ? n__3 : a__q;\n"
    ++ (codes "  logic [0:0] n__5;\n"
    ++ (codes "  assign n__5 = s__2 != 2'd0;\n"
    ++ (codes "  logic [1:0] n__6;\n"
    ++ (codes "  assign n__6 = s__2 - 2'd1;\n"
    ++ (codes "  logic [1:0] n__7;\n"
    ++ (codes "  assign n__7 = n__5 ? n__6 : 2'd0;\n"
    ++ (codes "  logic [1:0] n__8;\n"
    ++ (codes "  assign n__8 = s__1 ? 2'd2 : n__7;\n"
    ++ (codes "  always_ff @(posedge clk_i) begin\n"
    ++ (codes "    if (!rst_ni) begin\n"
    ++ (codes "      a__q <= 8'd0;\n"
    ++ (codes "      s__0 <= 1'd0;\n"
    ++ (codes "      s__1 <= 1'd0;\n"
    ++ (codes "      s__2 <= 2'd0;\n"
    ++ (codes "    end else begin\n"
    ++ (codes "      a__q <= n__4;\n"
    ++ (codes "      s__0 <= 1'd1;\n"
    ++ (codes "      s__1 <= n__2;\n"
    ++ (codes "      s__2 <= n__8;\n"
    ++ (codes "    end\n"
    ++ (codes "  end\n"
    ++ (codes "endmodule\n")))))))))))))))))))))))))))))))))))))))

-- the text
text_of_sample : module_text sample ≡ sample_text
unfolding module_text digits
text_of_sample = refl

well_formed_sample : is_well_formed sample ≡ true
unfolding is_well_formed
well_formed_sample = refl

bits_of_sample : register_bits sample ≡ 12
bits_of_sample = refl

-- nothing comes in
abbrev no_ports : Inputs
no_ports = record { count = 5; valid = λ port cycle. false; data_at = λ port cycle. 0; ack = λ port cycle. false }

abbrev shown : ℕ → ℕ
shown cycle = slice_index (registers_at sample no_ports cycle) 0

-- the register `a` in the cycles 0 to 4
register_of_sample : map shown (0 ∷ 1 ∷ 2 ∷ 3 ∷ 4 ∷ []) ≡ 0 ∷ 1 ∷ 1 ∷ 1 ∷ 2 ∷ []
unfolding registers_at
register_of_sample = refl
