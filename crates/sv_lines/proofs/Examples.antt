-- Modules and their texts, read: what each of these texts comes to is computed.
use Rattle.std.specs.Prelude.{◌≡◌, ℕ, Bool, true, false, List, [], ◌∷◌, ◌++◌, take, drop, codes, refl}
use Rattle.std.specs.Fmt.{digits}
use Rattle.core_term.specs.declared.operators.BinOp.TheVariants.{Add, Sub, Or, Eq, Ne, Cat}
use Rattle.sv_tree.specs.declared.tree.SvPort.{SvPort}
use Rattle.sv_tree.specs.declared.tree.SvRegName.TheVariants.{Source, State}
use Rattle.sv_tree.specs.declared.tree.SvReg.{SvReg}
use Rattle.sv_tree.specs.declared.tree.SvRef.TheVariants.{Data, Valid, Ack, Reg, Net}
use Rattle.sv_tree.specs.declared.tree.SvOperand.{SvOperand}
use Rattle.sv_tree.specs.declared.tree.SvOperand.TheVariants.{Ref, Lit}
use Rattle.sv_tree.specs.declared.tree.SvOp.{SvOp}
use Rattle.sv_tree.specs.declared.tree.SvOp.TheVariants.{Not, Bin, Slice, Choose}
use Rattle.sv_tree.specs.declared.tree.SvNet.{SvNet}
use Rattle.sv_tree.specs.declared.tree.SvOut.TheVariants.{Received, Sent}
use Rattle.sv_tree.specs.Module.{Module}
use Rattle.sv_tree.specs.Text.{module_text}
use Rattle.sv_lines.specs.State.{start, between, inside, clock_wanted, last_wanted, new_module}
use Rattle.sv_lines.specs.Step.{Outcome, read_on, read_to_end, stopped}

-- Short words for the parts of a module.

abbrev literal : (width value : ℕ) → SvOperand
literal width value = Lit (record { width = width; value = value })

abbrev register : (index : ℕ) → SvOperand
register index = Ref (Reg index)

abbrev net : (index : ℕ) → SvOperand
net index = Ref (Net index)

abbrev source : (name : List ℕ) → (width reset : ℕ) → SvReg
source name width reset = record { name = Source name; width = width; reset = record { width = width; value = reset } }

abbrev state : (number width : ℕ) → SvReg
state number width = record { name = State number; width = width; reset = record { width = width; value = 0 } }

abbrev wire : (width : ℕ) → SvOp → SvNet
wire width op = record { width = width; op = op }

abbrev outcome : List ℕ → Outcome
outcome text = read_on start 0 [] text

-- A module with one register, and one with ports and each kind of operand, are read back from their texts.

abbrev small : Module
small = record { proc = codes "m"; ports = []; regs = source (codes "r") 8 129 ∷ []; nets = []; outs = []; nexts = literal 8 3 ∷ [] }

small_read : outcome (module_text small) ≡ read_to_end (between (small ∷ [])) []
unfolding module_text digits
small_read = refl

abbrev port : (endpoint message : List ℕ) → (received : Bool) → (width : ℕ) → SvPort
port endpoint message received width = record { endpoint = endpoint; message = message; received = received; width = width }

abbrev wide : Module
wide = record {
  proc = codes "n";
  ports = port (codes "s") (codes "q") true 8 ∷ port (codes "n") (codes "q") false 4 ∷ [];
  regs = source (codes "n") 4 2 ∷ state 0 1 ∷ [];
  nets =
      wire 4 (Slice (Data 0) 7 4)
      ∷ wire 8 (Bin Cat (net 0) (register 0))
      ∷ wire 1 (Not (Ref (Ack 1)))
      ∷ wire 4 (Choose (Ref (Valid 0)) (net 0) (literal 4 15))
      ∷ [];
  outs = Received (net 2) ∷ Sent (net 3) (register 1) ∷ [];
  nexts = net 3 ∷ net 2 ∷ [];
}

both_read : outcome (module_text wide ++ module_text small) ≡ read_to_end (between (wide ∷ small ∷ [])) []
unfolding module_text digits
both_read = refl

-- two modules of one name: the second one's first line cannot stand, behind the 226 bytes of the first
twice_read : outcome (module_text small ++ module_text small) ≡ stopped 226
unfolding module_text digits
twice_read = refl

-- The module of a process with one register, which adds 1 to it in some cycles.

abbrev sample : Module
sample = record {
  proc = codes "c";
  ports = [];
  regs =
      source (codes "a") 8 0
      ∷ state 0 1
      ∷ state 1 1
      ∷ state 2 2
      ∷ [];
  nets =
      wire 1 (Bin Eq (register 3) (literal 2 1))
      ∷ wire 1 (Not (register 1))
      ∷ wire 1 (Bin Or (net 0) (net 1))
      ∷ wire 8 (Bin Add (register 0) (literal 8 1))
      ∷ wire 8 (Choose (net 2) (net 3) (register 0))
      ∷ wire 1 (Bin Ne (register 3) (literal 2 0))
      ∷ wire 2 (Bin Sub (register 3) (literal 2 1))
      ∷ wire 2 (Choose (net 5) (net 6) (literal 2 0))
      ∷ wire 2 (Choose (register 2) (literal 2 2) (net 7))
      ∷ [];
  outs = [];
  nexts = net 4 ∷ literal 1 1 ∷ net 2 ∷ net 8 ∷ [];
}

abbrev sample_text : List ℕ
sample_text =
    codes "module anvil__c (\n"
    ++ (codes "  input logic clk_i,\n"
    ++ (codes "  input logic rst_ni\n"
    ++ (codes ");\n"
    ++ (codes "  logic [7:0] a__q;\n"
    ++ (codes "  logic [0:0] s__0;\n"
    ++ (codes "  logic [0:0] s__1;\n"
    ++ (codes "  logic [1:0] s__2;\n"
    ++ (codes "  logic [0:0] n__0;\n"
    ++ (codes "  assign n__0 = s__2 == 2'd1;\n"
    ++ (codes "  logic [0:0] n__1;\n"
    ++ (codes "  assign n__1 = ~s__0;\n"
    ++ (codes "  logic [0:0] n__2;\n"
    ++ (codes "  assign n__2 = n__0 | n__1;\n"
    ++ (codes "  logic [7:0] n__3;\n"
    ++ (codes "  assign n__3 = a__q + 8'd1;\n"
    ++ (codes "  logic [7:0] n__4;\n"
    ++ (codes "  assign n__4 = n__2 ? n__3 : a__q;\n"
    ++ (codes "  logic [0:0] n__5;\n"
    ++ (codes "  assign n__5 = s__2 != 2'd0;\n"
    ++ (codes "  logic [1:0] n__6;\n"
    ++ (codes "  assign n__6 = s__2 - 2'd1;\n"
    ++ (codes "  logic [1:0] n__7;\n"
    ++ (codes "  assign n__7 = n__5 ? n__6 : 2'd0;\n"
    ++ (codes "  logic [1:0] n__8;\n"
    ++ (codes "  assign n__8 = s__1 ? 2'd2 : n__7;\n"
    ++ (codes "  always_ff @(posedge clk_i) begin\n"
    ++ (codes "    if (!rst_ni) begin\n"
    ++ (codes "      a__q <= 8'd0;\n"
    ++ (codes "      s__0 <= 1'd0;\n"
    ++ (codes "      s__1 <= 1'd0;\n"
    ++ (codes "      s__2 <= 2'd0;\n"
    ++ (codes "    end else begin\n"
    ++ (codes "      a__q <= n__4;\n"
    ++ (codes "      s__0 <= 1'd1;\n"
    ++ (codes "      s__1 <= n__2;\n"
    ++ (codes "      s__2 <= n__8;\n"
    ++ (codes "    end\n"
    ++ (codes "  end\n"
    ++ (codes "endmodule\n")))))))))))))))))))))))))))))))))))))))

sample_read : outcome sample_text ≡ read_to_end (between (sample ∷ [])) []
unfolding digits
sample_read = refl

-- its first 20 bytes: two bytes are left behind the first line
cut_in_clock : outcome (take 20 sample_text) ≡ read_to_end (inside [] (new_module (codes "c")) clock_wanted) (codes "  ")
cut_in_clock = refl

-- without its last line, and without its last line feed: the last line is wanted behind 852 bytes
cut_before_last : outcome (take 852 sample_text) ≡ read_to_end (inside [] sample last_wanted) []
unfolding digits
cut_before_last = refl

cut_in_last : outcome (take 861 sample_text) ≡ read_to_end (inside [] sample last_wanted) (codes "endmodule")
unfolding digits
cut_in_last = refl

-- the operand `n__1` of the net 2 is replaced by `n__9`
later_net : outcome (take 277 sample_text ++ (codes "9" ++ drop 278 sample_text)) ≡ stopped 256
unfolding digits
later_net = refl

-- a line that is two, and a carriage return in front of a line feed
one_line : outcome (codes "module m; endmodule\n") ≡ stopped 0
one_line = refl

carriage_return : outcome (codes "module anvil__c (" ++ (13 ∷ drop 17 sample_text)) ≡ stopped 0
carriage_return = refl
