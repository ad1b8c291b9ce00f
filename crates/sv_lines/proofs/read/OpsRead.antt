-- Operators: what is read stands in the module, and its text is what was read. Where the widths go together, it is well-formed.
use Rattle.std.proofs.Common.{◌≡◌, ℕ, Bool, true, false, cond, ◌&&◌, List, [], ◌∷◌, ◌++◌, length, Option, Some, None, refl, ap, sym, ◌∙◌, append_assoc, append-nil}
use Rattle.std.proofs.lemmas.Bool.{and_parts}
use Rattle.std.proofs.lemmas.Option.{same_Some}
use Rattle.std.specs.Prelude.{bytes_eq, codes, decimal, nat_lt, nat_le, ◌==◌}
use Rattle.core_term.specs.declared.operators.BinOp.{BinOp}
use Rattle.core_term.specs.declared.operators.BinOp.TheVariants.{Add, Sub, Mul, And, Or, Xor, Eq, Ne, Lt, Le, Gt, Ge, Shl, Shr, Cat}
use Rattle.sv_tree.specs.declared.tree.SvRef.{SvRef}
use Rattle.sv_tree.specs.declared.tree.SvOperand.{SvOperand}
use Rattle.sv_tree.specs.declared.tree.SvOperand.TheVariants.{Ref, Lit}
use Rattle.sv_tree.specs.declared.tree.SvOp.{SvOp}
use Rattle.sv_tree.specs.declared.tree.SvOp.TheVariants.{Not, Bin, Slice, Choose}
use Rattle.sv_tree.specs.Limits.{widest}
use Rattle.sv_tree.specs.Module.{Module}
use Rattle.sv_tree.specs.Text.{ref_text, operand_text, op_text, operator_text, before_text, after_text}
use Rattle.sv_tree.specs.WellFormed.{ref_stands, operand_stands, operand_width, op_fits}
use Rattle.sv_lines.specs.Pieces.{after, front_run, after_run, number_at}
use Rattle.sv_lines.specs.Operands.{operand_at, last_operand, sign_of, is_no_blank, operator_at, inverted, joined, reference_of, slice_by, sliced, chosen, operated, op_after, op_by, op_of, widths_fit}
use Rattle.sv_lines.proofs.read.Decided.{passes, bytes_same, closes, then_read}
use Rattle.sv_lines.proofs.read.PiecesRead.{after_read, run_joined, number_read}
use Rattle.sv_lines.proofs.read.OperandsRead.{front_read, last_read}

-- Signs.

pub record SignRead (text : List ℕ) (op : BinOp) : Type 0 where
  pub written : operator_text op ≡ codes " " ++ (text ++ codes " ")
  pub nothing_before : before_text op ≡ []
  pub nothing_after : after_text op ≡ []

sign_by : (text word : List ℕ) (sign op : BinOp) (others : Option BinOp) (here : Bool) → SignRead word sign → bytes_eq text word ≡ here
    → (others ≡ Some op → SignRead text op) → cond here (Some sign) others ≡ Some op → SignRead text op
sign_by text word sign op others true read is later e = rw (← same_Some _ _ e, bytes_same text word is) read
sign_by text word sign op others false read is later e = later e

abbrev bare : {word : List ℕ} (sign : BinOp) → operator_text sign ≡ codes " " ++ (word ++ codes " ") → before_text sign ≡ [] → after_text sign ≡ [] → SignRead word sign
bare sign written nothing_before nothing_after = record { written = written; nothing_before = nothing_before; nothing_after = nothing_after }

no_sign : (text : List ℕ) (op : BinOp) → None ≡ Some op → SignRead text op
no_sign text op e = absurd cc

sign_read : (text : List ℕ) (op : BinOp) → sign_of text ≡ Some op → SignRead text op
sign_read text op e =
    sign_by text (codes "+") Add op _ _ (bare Add refl refl refl) refl
    (sign_by text (codes "-") Sub op _ _ (bare Sub refl refl refl) refl
    (sign_by text (codes "*") Mul op _ _ (bare Mul refl refl refl) refl
    (sign_by text (codes "&") And op _ _ (bare And refl refl refl) refl
    (sign_by text (codes "|") Or op _ _ (bare Or refl refl refl) refl
    (sign_by text (codes "^") Xor op _ _ (bare Xor refl refl refl) refl
    (sign_by text (codes "==") Eq op _ _ (bare Eq refl refl refl) refl
    (sign_by text (codes "!=") Ne op _ _ (bare Ne refl refl refl) refl
    (sign_by text (codes "<") Lt op _ _ (bare Lt refl refl refl) refl
    (sign_by text (codes "<=") Le op _ _ (bare Le refl refl refl) refl
    (sign_by text (codes ">") Gt op _ _ (bare Gt refl refl refl) refl
    (sign_by text (codes ">=") Ge op _ _ (bare Ge refl refl refl) refl
    (sign_by text (codes "<<") Shl op _ _ (bare Shl refl refl refl) refl
    (sign_by text (codes ">>") Shr op _ _ (bare Shr refl refl refl) refl (no_sign text op)))))))))))))) e

pub record OperatorRead (text : List ℕ) (op : BinOp) (rest : List ℕ) : Type 0 where
  pub written : text ≡ operator_text op ++ rest
  pub nothing_before : before_text op ≡ []
  pub nothing_after : after_text op ≡ []

operator_read : (text : List ℕ) (found : BinOp × List ℕ) → operator_at text ≡ Some found → OperatorRead text found.0 found.1
operator_read text found e =
    then_read (after (codes " ") text) _ found e (λ rest is_rest e.
    then_read (sign_of (front_run is_no_blank rest)) _ found e (λ op is_op e.
    then_read (after (codes " ") (after_run is_no_blank rest)) _ found e (λ behind is_behind e.
    let sign = sign_read (front_run is_no_blank rest) op is_op in
    let stands : rest ≡ front_run is_no_blank rest ++ (codes " " ++ behind) =
    run_joined is_no_blank rest ∙ ap (λ l. front_run is_no_blank rest ++ l) (after_read (codes " ") (after_run is_no_blank rest) behind is_behind) in
    rw (← same_Some _ _ e)
    (record {
      written =
          after_read (codes " ") text rest is_rest ∙ ap (λ l. 32 ∷ l) (stands ∙ sym (append_assoc (front_run is_no_blank rest) (codes " ") behind))
          ∙ ap (λ l. l ++ behind) (sym sign.written);
      nothing_before = sign.nothing_before;
      nothing_after = sign.nothing_after;
    }))))

-- Operators.

-- all operands stand
abbrev pub op_stands : Module → (known : ℕ) → SvOp → Bool
op_stands tree known (Not x) = operand_stands tree known x
op_stands tree known (Bin op x y) = operand_stands tree known x && operand_stands tree known y
op_stands tree known (Slice of high low) = ref_stands tree known of
op_stands tree known (Choose condition x y) = operand_stands tree known condition && (operand_stands tree known x && operand_stands tree known y)

pub record OpRead (tree : Module) (text : List ℕ) (op : SvOp) : Type 0 where
  pub written : text ≡ op_text tree op ++ codes ";"
  pub stands : op_stands tree (length tree.nets) op ≡ true

inverted_read : (tree : Module) (rest : List ℕ) (op : SvOp) → inverted tree rest ≡ Some op → OpRead tree (codes "~" ++ rest) op
inverted_read tree rest op e =
    then_read (last_operand tree rest) _ op e (λ x is_x e.
    let read = last_read tree rest x is_x in
    rw (← same_Some _ _ e) (record { written = ap (λ l. codes "~" ++ l) read.written; stands = read.stands }))

joined_read : (tree : Module) (rest : List ℕ) (op : SvOp) → joined tree rest ≡ Some op → OpRead tree (codes "{" ++ rest) op
joined_read tree rest op e =
    then_read (operand_at tree rest) _ op e (λ x is_x e.
    then_read (after (codes ", ") x.1) _ op e (λ behind is_behind e.
    then_read (operand_at tree behind) _ op e (λ y is_y e.
    let first = front_read tree rest x is_x in
    let second = front_read tree behind y is_y in
    let ended = closes (codes "};") (Bin Cat x.0 y.0) op y.1 e in
    let stands : rest ≡ operand_text tree x.0 ++ (codes ", " ++ (operand_text tree y.0 ++ codes "};")) =
    rw (← ended.ends, ← second.written, ← after_read (codes ", ") x.1 behind is_behind) first.written in
    rw (← ended.same)
    (record {
      written = ap (λ l. codes "{" ++ l) (stands ∙ joins (operand_text tree x.0) (operand_text tree y.0));
      stands = rw (first.stands, second.stands) refl;
    }))))
  where
    joins : (one other : List ℕ) → one ++ (codes ", " ++ (other ++ codes "};")) ≡ (one ++ (codes ", " ++ (other ++ codes "}"))) ++ codes ";"
    joins one other = simp append_assoc

reference_read : (x : SvOperand) (ref : SvRef) → reference_of x ≡ Some ref → x ≡ Ref ref
reference_read (Ref ref) other e = cc
reference_read (Lit number) other e = absurd cc

sliced_read : (tree : Module) (x : SvOperand) (rest : List ℕ) (op : SvOp) → operand_stands tree (length tree.nets) x ≡ true → sliced x rest ≡ Some op
    → OpRead tree (operand_text tree x ++ (codes "[" ++ rest)) op
sliced_read tree x rest op x_stands e =
    then_read (reference_of x) _ op e (λ of is_of e.
    then_read (number_at rest) _ op e (λ high is_high e.
    then_read (after (codes ":") high.1) _ op e (λ behind is_behind e.
    then_read (number_at behind) _ op e (λ low is_low e.
    then_read (slice_by of high.0 low.0) _ op e (λ slice is_slice e.
    let is_ref = reference_read x of is_of in
    let passed = passes (nat_lt high.0 widest && nat_le low.0 high.0) (Slice of high.0 low.0) slice is_slice in
    let ended = closes (codes "];") slice op low.1 e in
    let stands : rest ≡ decimal high.0 ++ (codes ":" ++ (decimal low.0 ++ codes "];")) =
    rw (← ended.ends, ← (number_read behind low is_low).written, ← after_read (codes ":") high.1 behind is_behind) (number_read rest high is_high).written in
    rw (← ended.same, ← passed.same)
    (record {
      written = rw (is_ref, stands) (joins (ref_text tree of) (decimal high.0) (decimal low.0));
      stands = rw is_ref at x_stands;
    }))))))
  where
    joins : (one high low : List ℕ) → one ++ (codes "[" ++ (high ++ (codes ":" ++ (low ++ codes "];")))) ≡ (one ++ (codes "[" ++ (high ++ (codes ":" ++ (low ++ codes "]"))))) ++ codes ";"
    joins one high low = simp append_assoc

chosen_read : (tree : Module) (condition : SvOperand) (rest : List ℕ) (op : SvOp) → operand_stands tree (length tree.nets) condition ≡ true → chosen tree condition rest ≡ Some op
    → OpRead tree (operand_text tree condition ++ (codes " ? " ++ rest)) op
chosen_read tree condition rest op condition_stands e =
    then_read (operand_at tree rest) _ op e (λ x is_x e.
    then_read (after (codes " : ") x.1) _ op e (λ behind is_behind e.
    then_read (last_operand tree behind) _ op e (λ y is_y e.
    let first = front_read tree rest x is_x in
    let second = last_read tree behind y is_y in
    let stands : rest ≡ operand_text tree x.0 ++ (codes " : " ++ (operand_text tree y ++ codes ";")) =
    rw (← second.written, ← after_read (codes " : ") x.1 behind is_behind) first.written in
    rw (← same_Some _ _ e)
    (record {
      written = rw stands (joins (operand_text tree condition) (operand_text tree x.0) (operand_text tree y));
      stands = rw (condition_stands, first.stands, second.stands) refl;
    }))))
  where
    joins : (one two three : List ℕ) → one ++ (codes " ? " ++ (two ++ (codes " : " ++ (three ++ codes ";")))) ≡ (one ++ (codes " ? " ++ (two ++ (codes " : " ++ three)))) ++ codes ";"
    joins one two three = simp append_assoc

operated_read : (tree : Module) (x : SvOperand) (rest : List ℕ) (op : SvOp) → operand_stands tree (length tree.nets) x ≡ true → operated tree x rest ≡ Some op
    → OpRead tree (operand_text tree x ++ rest) op
operated_read tree x rest op x_stands e =
    then_read (operator_at rest) _ op e (λ sign is_sign e.
    then_read (last_operand tree sign.1) _ op e (λ y is_y e.
    let read = operator_read rest sign is_sign in
    let second = last_read tree sign.1 y is_y in
    rw (← same_Some _ _ e)
    (record {
      written = rw (read.nothing_before, read.nothing_after, read.written, second.written) (joins (operand_text tree x) (operator_text sign.0) (operand_text tree y));
      stands = rw (x_stands, second.stands) refl;
    })))
  where
    joins : (one sign other : List ℕ) → one ++ (sign ++ (other ++ codes ";")) ≡ (one ++ (sign ++ (other ++ []))) ++ codes ";"
    joins one sign other = simp (append_assoc, append-nil)

after_read_by : (tree : Module) (x : SvOperand) (rest : List ℕ) (bracket choice : Option (List ℕ)) (op : SvOp) → operand_stands tree (length tree.nets) x ≡ true
    → after (codes "[") rest ≡ bracket → after (codes " ? ") rest ≡ choice → op_after tree x rest bracket choice ≡ Some op → OpRead tree (operand_text tree x ++ rest) op
after_read_by tree x rest (Some inner) choice op stands is_bracket is_choice e =
    rw (after_read (codes "[") rest inner is_bracket) (sliced_read tree x inner op stands e)
after_read_by tree x rest None (Some inner) op stands is_bracket is_choice e =
    rw (after_read (codes " ? ") rest inner is_choice) (chosen_read tree x inner op stands e)
after_read_by tree x rest None None op stands is_bracket is_choice e = operated_read tree x rest op stands e

op_read_by : (tree : Module) (text : List ℕ) (tilde brace : Option (List ℕ)) (op : SvOp) → after (codes "~") text ≡ tilde → after (codes "{") text ≡ brace
    → op_by tree text tilde brace ≡ Some op → OpRead tree text op
op_read_by tree text (Some rest) brace op is_tilde is_brace e = rw (after_read (codes "~") text rest is_tilde) (inverted_read tree rest op e)
op_read_by tree text None (Some rest) op is_tilde is_brace e = rw (after_read (codes "{") text rest is_brace) (joined_read tree rest op e)
op_read_by tree text None None op is_tilde is_brace e =
    then_read (operand_at tree text) _ op e (λ x is_x e.
    let first = front_read tree text x is_x in
    rw (first.written) (after_read_by tree x.0 x.1 (after (codes "[") x.1) (after (codes " ? ") x.1) op first.stands refl refl e))

pub op_read : (tree : Module) (text : List ℕ) (op : SvOp) → op_of tree text ≡ Some op → OpRead tree text op
op_read tree text op e = op_read_by tree text (after (codes "~") text) (after (codes "{") text) op refl refl e

-- operands that stand and widths that fit are what a well-formed net asks for
pub op_is_fit : (tree : Module) (known width : ℕ) (op : SvOp) → op_stands tree known op ≡ true → widths_fit tree width op ≡ true → op_fits tree known width op ≡ true
op_is_fit tree known width (Not x) stands fit = rw (stands, fit) refl
op_is_fit tree known width (Bin op x y) stands fit =
    let parts = and_parts (operand_stands tree known x) (operand_stands tree known y) stands in
    rw (parts.0, parts.1, fit) refl
op_is_fit tree known width (Slice of high low) stands fit = rw (stands, fit) refl
op_is_fit tree known width (Choose condition x y) stands fit =
    let parts = and_parts (operand_stands tree known condition) (operand_stands tree known x && operand_stands tree known y) stands in
    let others = and_parts (operand_stands tree known x) (operand_stands tree known y) parts.1 in
    let widths = and_parts ((operand_width tree condition == 1) && (operand_width tree x == width)) (operand_width tree y == width) fit in
    let two = and_parts (operand_width tree condition == 1) (operand_width tree x == width) widths.0 in
    rw (parts.0, others.0, others.1, two.0, two.1, widths.1) refl
