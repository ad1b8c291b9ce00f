-- Registers one after the other: what stands after some of them.
use Rattle.std.proofs.Common.{◌≡◌, ◌∙◌, ◌⊎◌, ◌+◌, ◌<◌, ◌≤◌, ℕ, List, [], ◌∷◌, ◌++◌, None, Some, length, map, drop, get_or, refl, ap, sym, subst, inl, inr, arith, append_assoc, length-append, add-one, suc, zero}
use Rattle.std.proofs.Math.Seq.{drop-cons}
use Rattle.std.proofs.lemmas.List.{append-nil}
use Rattle.anvil_tree.specs.declared.file.Register.{Register}
use Rattle.core_term.specs.declared.process.CoreReg.{CoreReg}
use Rattle.core_term.specs.Limits.{most_registers}
use Rattle.core_term.specs.Lists.{Has}
use Rattle.core_term.specs.Process as plain
use Rattle.core_term.specs.ProcessView as core
use Rattle.first_check.specs.Check.{first_refusal}
use Rattle.first_check.proofs.Walks.{passes, stops}
use Rattle.core_file.specs.CoreProcess.{register_of}
use Rattle.core_file.specs.ProcessChecks.{register_checks, registers_checks}
use Rattle.core_file.specs.declared.error.NameErr.{NameErr}
use Rattle.channel_classes.proofs.Table.{map_more}
use Rattle.expr_check.specs.Tables.{names_of}
use Rattle.width_check.specs.ReadRegisters.{RegistersRead, RegistersFail}

pub record Standing (all : List Register) (read : List CoreReg) (rest : List Register) : Type 0 where
  pub refused : first_refusal (registers_checks [] all) ≡ first_refusal (registers_checks (names_of read) rest)
  pub same : map register_of all ≡ map core.register_of read ++ map register_of rest
  pub resets : (register : CoreReg) → Has read register → register.reset.width ≡ register.width
  pub room : length read + length rest ≤ most_registers

pub begins : (all : List Register) → length all ≤ most_registers → Standing all [] all
begins all few = record { refused = refl; same = refl; resets = λ register has. elim has [ ]; room = omega arith }

has_more : (read : List CoreReg) (made other : CoreReg) → Has (read ++ (made ∷ [])) other → Has read other ⊎ (other ≡ made)
has_more [] made other (inl here) = inr here
has_more [] made other (inr has) = elim has [ ]
has_more (first ∷ read) made other (inl here) = inl (inl here)
has_more (first ∷ read) made other (inr has) = elim (has_more read made other has) [ inl there ↦ inl (inr there) | inr last ↦ inr last ]

pub past : (all : List Register) (read more : List CoreReg) (register : Register) (made : CoreReg) (rest : List Register) → Standing all read (register ∷ rest)
    → first_refusal (register_checks (names_of read) register) ≡ None → core.register_of made ≡ register_of register → made.reset.width ≡ made.width
    → more ≡ read ++ (made ∷ []) → Standing all more rest
past all read more register made rest s none same width is =
    let named : made.name ≡ register.name = ap (λ (r : plain.Register). r.name) same in
    rw is
    (record {
      refused = s.refused ∙ passes (register_checks (names_of read) register) (registers_checks (names_of read ++ (register.name ∷ [])) rest) none
          ∙ ap (λ name. first_refusal (registers_checks (names_of read ++ (name ∷ [])) rest)) (sym named)
          ∙ ap (λ names. first_refusal (registers_checks names rest)) (sym (map_more (λ (r : CoreReg). r.name) read made));
      same = s.same ∙ ap (λ r. map core.register_of read ++ (r ∷ map register_of rest)) (sym same) ∙ rw (map_more core.register_of read made, append_assoc) refl;
      resets = λ other has. elim (has_more read made other has) [ inl there ↦ s.resets other there | inr last ↦ ap (λ (r : CoreReg). r.reset.width) last ∙ width ∙ ap (λ (r : CoreReg). r.width) (sym last) ];
      room = let room = s.room in omega (arith, length-append read (made ∷ []));
    })

pub one_fails : (all : List Register) (read : List CoreReg) (register : Register) (rest : List Register) (fault : NameErr) → Standing all read (register ∷ rest)
    → first_refusal (register_checks (names_of read) register) ≡ Some fault → RegistersFail all fault
one_fails all read register rest fault s some = record { why = inr (s.refused ∙ stops (register_checks (names_of read) register) _ fault some) }

pub next : (all : List Register) (read : List CoreReg) (index : ℕ) (register : Register) → index < length all → register ≡ get_or all index register
    → Standing all read (drop index all) → Standing all read (register ∷ drop (index + 1) all)
next all read index register inside is standing =
    subst (Standing all read) (drop-cons all index register inside ∙ rw (sym is) (ap (λ n. register ∷ drop n all) (sym (add-one index)))) standing

drop_all : (all : List Register) (index : ℕ) → length all ≤ index → drop index all ≡ []
drop_all [] zero behind = refl
drop_all [] (suc index) behind = refl
drop_all (first ∷ all) zero behind = absurd (omega arith)
drop_all (first ∷ all) (suc index) behind = drop_all all index (omega arith)

pub ends : (all : List Register) (read : List CoreReg) (index : ℕ) → length all ≤ index → Standing all read (drop index all) → RegistersRead all read
ends all read index behind standing =
    let s = subst (Standing all read) (drop_all all index behind) standing in
    record { passes = s.refused; same = sym (s.same ∙ append-nil (map core.register_of read)); resets = s.resets }
