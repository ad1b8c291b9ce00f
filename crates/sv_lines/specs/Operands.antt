-- Operands and operators of a module that is read so far: what is named must stand in it.
use Rattle.std.specs.Prelude.{ℕ, ◌==◌, nat_lt, nat_le, Bool, not, ◌&&◌, ◌||◌, List, [], length, slice_get, position, bytes_eq, codes, Option, Some, None, if◌then◌else◌}
use Rattle.anvil_bits.specs.Number.{Number}
use Rattle.anvil_lexer.specs.GoodName.{is_name_byte}
use Rattle.core_term.specs.declared.operators.BinOp.{BinOp}
use Rattle.core_term.specs.declared.operators.BinOp.TheVariants.{Add, Sub, Mul, And, Or, Xor, Eq, Ne, Lt, Le, Gt, Ge, Shl, Shr, Cat}
use Rattle.sv_tree.specs.declared.tree.SvPort.{SvPort}
use Rattle.sv_tree.specs.declared.tree.SvRegName.{SvRegName}
use Rattle.sv_tree.specs.declared.tree.SvRegName.TheVariants.{Source, State}
use Rattle.sv_tree.specs.declared.tree.SvRef.{SvRef}
use Rattle.sv_tree.specs.declared.tree.SvRef.TheVariants.{Data, Valid, Ack, Reg, Net}
use Rattle.sv_tree.specs.declared.tree.SvOperand.{SvOperand}
use Rattle.sv_tree.specs.declared.tree.SvOperand.TheVariants.{Ref, Lit}
use Rattle.sv_tree.specs.declared.tree.SvOp.{SvOp}
use Rattle.sv_tree.specs.declared.tree.SvOp.TheVariants.{Not, Bin, Slice, Choose}
use Rattle.sv_tree.specs.Limits.{widest}
use Rattle.sv_tree.specs.Module.{Module}
use Rattle.sv_tree.specs.WellFormed.{is_number, is_received, is_sent, is_same_register, register_names, operand_width, ref_width, bin_widths_fit, slice_widths_fit}
use Rattle.sv_lines.specs.declared.wire.Wire.{Wire}
use Rattle.sv_lines.specs.declared.wire.Wire.TheVariants as wire
use Rattle.sv_lines.specs.Pieces.{◌>>=◌, after, closed, front_run, after_run, number_at, cut}
use Rattle.sv_lines.specs.Lines.{Label, source, state, net, wire_of, label_of}

-- `W'dN`
abbrev pub literal_by : Number → Option Number
literal_by number = if is_number number then Some number else None

abbrev pub literal_of : List ℕ → Option Number
literal_of text =
    number_at text >>= (λ width. after (codes "'d") width.1 >>= (λ rest. number_at rest >>= (λ value.
    closed [] (record { width = width.0; value = value.0 }) value.1 >>= (λ number. literal_by number))))

-- a port by its names
abbrev pub is_named : (endpoint message : List ℕ) → SvPort → Bool
is_named endpoint message port = bytes_eq endpoint port.endpoint && bytes_eq message port.message

abbrev pub port_index : Module → (endpoint message : List ℕ) → Option ℕ
port_index tree endpoint message = position (is_named endpoint message) tree.ports

abbrev pub register_index : Module → SvRegName → Option ℕ
register_index tree name = position (is_same_register name) (register_names tree)

abbrev pub wire_ref : Option SvPort → (index : ℕ) → Wire → Option SvRef
wire_ref port index wire.Data = if is_received port then Some (Data index) else None
wire_ref port index wire.Valid = if is_received port then Some (Valid index) else None
wire_ref port index wire.Ack = if is_sent port then Some (Ack index) else None

abbrev pub register_ref : Module → SvRegName → Option SvRef
register_ref tree name = register_index tree name >>= (λ index. Some (Reg index))

abbrev pub label_ref : Module → Label → Option SvRef
label_ref tree (source name) = register_ref tree (Source name)
label_ref tree (state number) = register_ref tree (State number)
label_ref tree (net number) = if nat_lt number (length tree.nets) then Some (Net number) else None

abbrev pub port_wire : Module → (endpoint message word : List ℕ) → Option SvRef
port_wire tree endpoint message word =
    wire_of word >>= (λ wire. port_index tree endpoint message
    >>= (λ index. wire_ref (slice_get tree.ports index) index wire))

-- what stands after the first `__` has a second one where a wire is named
abbrev pub named_by : Module → List ℕ → List ℕ → Option (List ℕ × List ℕ) → Option SvRef
named_by tree text endpoint (Some parts) = port_wire tree endpoint parts.0 parts.1
named_by tree text endpoint None = label_of text >>= label_ref tree

abbrev pub operand_by : Module → List ℕ → Option (List ℕ × List ℕ) → Option SvOperand
operand_by tree text None = literal_of text >>= (λ number. Some (Lit number))
operand_by tree text (Some parts) = named_by tree text parts.0 (cut parts.1) >>= (λ ref. Some (Ref ref))

abbrev pub operand_of : Module → List ℕ → Option SvOperand
operand_of tree text = operand_by tree text (cut text)

-- a byte of a name, or the quote of a literal
abbrev pub is_operand_byte : ℕ → Bool
is_operand_byte byte = is_name_byte byte || (byte == 39)

abbrev pub operand_at : Module → List ℕ → Option (SvOperand × List ℕ)
operand_at tree text =
    operand_of tree (front_run is_operand_byte text) >>= (λ x. Some (x, after_run is_operand_byte text))

-- a whole operand, and the end of the line
abbrev pub last_operand : Module → List ℕ → Option SvOperand
last_operand tree text = operand_at tree text >>= (λ x. closed (codes ";") x.0 x.1)

-- what stands between two blanks
abbrev pub sign_of : List ℕ → Option BinOp
sign_of text =
    if bytes_eq text (codes "+") then Some Add else (if bytes_eq text (codes "-") then Some Sub
    else (if bytes_eq text (codes "*") then Some Mul
    else (if bytes_eq text (codes "&") then Some And else (if bytes_eq text (codes "|") then Some Or
    else (if bytes_eq text (codes "^") then Some Xor
    else (if bytes_eq text (codes "==") then Some Eq else (if bytes_eq text (codes "!=") then Some Ne
    else (if bytes_eq text (codes "<") then Some Lt
    else (if bytes_eq text (codes "<=") then Some Le else (if bytes_eq text (codes ">") then Some Gt
    else (if bytes_eq text (codes ">=") then Some Ge
    else (if bytes_eq text (codes "<<") then Some Shl else (if bytes_eq text (codes ">>") then Some Shr
    else None)))))))))))))

abbrev pub is_no_blank : ℕ → Bool
is_no_blank byte = not (byte == 32)

abbrev pub operator_at : List ℕ → Option (BinOp × List ℕ)
operator_at text =
    after (codes " ") text >>= (λ rest. sign_of (front_run is_no_blank rest) >>= (λ op.
    after (codes " ") (after_run is_no_blank rest) >>= (λ rest. Some (op, rest))))

-- The operators, each with the end of the line.

abbrev pub inverted : Module → List ℕ → Option SvOp
inverted tree rest = last_operand tree rest >>= (λ x. Some (Not x))

abbrev pub joined : Module → List ℕ → Option SvOp
joined tree rest =
    operand_at tree rest >>= (λ x. after (codes ", ") x.1 >>= (λ rest. operand_at tree rest
    >>= (λ y. closed (codes "};") (Bin Cat x.0 y.0) y.1)))

abbrev pub reference_of : SvOperand → Option SvRef
reference_of (Ref ref) = Some ref
reference_of (Lit number) = None

abbrev pub slice_by : SvRef → (high low : ℕ) → Option SvOp
slice_by of high low = if nat_lt high widest && nat_le low high then Some (Slice of high low) else None

abbrev pub sliced : SvOperand → List ℕ → Option SvOp
sliced x rest =
    reference_of x >>= (λ of. number_at rest >>= (λ high. after (codes ":") high.1 >>= (λ rest. number_at rest
    >>= (λ low.
    slice_by of high.0 low.0 >>= (λ op. closed (codes "];") op low.1)))))

abbrev pub chosen : Module → SvOperand → List ℕ → Option SvOp
chosen tree condition rest =
    operand_at tree rest >>= (λ x. after (codes " : ") x.1 >>= (λ rest. last_operand tree rest
    >>= (λ y. Some (Choose condition x.0 y))))

abbrev pub operated : Module → SvOperand → List ℕ → Option SvOp
operated tree x rest = operator_at rest >>= (λ op. last_operand tree op.1 >>= (λ y. Some (Bin op.0 x y)))

abbrev pub op_after : Module → SvOperand → List ℕ → Option (List ℕ) → Option (List ℕ) → Option SvOp
op_after tree x rest (Some inner) choice = sliced x inner
op_after tree x rest None (Some inner) = chosen tree x inner
op_after tree x rest None None = operated tree x rest

abbrev pub op_with_first : Module → SvOperand → List ℕ → Option SvOp
op_with_first tree x rest = op_after tree x rest (after (codes "[") rest) (after (codes " ? ") rest)

abbrev pub op_by : Module → List ℕ → Option (List ℕ) → Option (List ℕ) → Option SvOp
op_by tree text (Some rest) brace = inverted tree rest
op_by tree text None (Some rest) = joined tree rest
op_by tree text None None = operand_at tree text >>= (λ x. op_with_first tree x.0 x.1)

abbrev pub op_of : Module → List ℕ → Option SvOp
op_of tree text = op_by tree text (after (codes "~") text) (after (codes "{") text)

-- whether the operands of an operator have the widths that a net of `width` bits wants
abbrev pub widths_fit : Module → (width : ℕ) → SvOp → Bool
widths_fit tree width (Not x) = operand_width tree x == width
widths_fit tree width (Bin op x y) = bin_widths_fit op width (operand_width tree x) (operand_width tree y)
widths_fit tree width (Slice of high low) = slice_widths_fit high low width (ref_width tree of)
widths_fit tree width (Choose condition x y) =
    (operand_width tree condition == 1) && (operand_width tree x == width) && (operand_width tree y == width)
