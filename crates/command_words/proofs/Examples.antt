-- Forms of words, and the usage line, computed.
use Rattle.std.specs.Fmt.{digits}
use Rattle.std.proofs.Common.{◌≡◌, [], ◌∷◌, Some, None, codes, refl}
use Rattle.command_words.specs.Form.{check_form, compile_form, form_of, gen_form, loads_of, number_of, run_form, runsv_form, usage_line}

of_usage : usage_line ≡ codes "usage: anvil check FILE | compile FILE | run FILE PROC STIM | runsv FILE SV PROC STIM | gen NUMBER\n"
of_usage = refl

-- The five forms.

of_check : form_of (codes "check" ∷ codes "f" ∷ []) ≡ Some (check_form (codes "f"))
of_check = refl

of_compile : form_of (codes "compile" ∷ codes "f" ∷ []) ≡ Some (compile_form (codes "f"))
of_compile = refl

of_run : form_of (codes "run" ∷ codes "f" ∷ codes "p" ∷ codes "s" ∷ []) ≡ Some (run_form (codes "f") (codes "p") (codes "s"))
of_run = refl

of_runsv : form_of (codes "runsv" ∷ codes "f" ∷ codes "m" ∷ codes "p" ∷ codes "s" ∷ [])
    ≡ Some (runsv_form (codes "f") (codes "m") (codes "p") (codes "s"))
of_runsv = refl

of_gen : form_of (codes "gen" ∷ codes "1" ∷ []) ≡ Some (gen_form 1)
unfolding digits number_of
of_gen = refl

of_gen_most : form_of (codes "gen" ∷ codes "64" ∷ []) ≡ Some (gen_form 64)
unfolding digits number_of
of_gen_most = refl

-- a command's word may be an operand, and so may `help`
of_own_word : form_of (codes "check" ∷ codes "help" ∷ []) ≡ Some (check_form (codes "help"))
of_own_word = refl

-- what `runsv` loads, in order
loads_of_runsv : loads_of (runsv_form (codes "f") (codes "m") (codes "p") (codes "s"))
    ≡ (record { name = codes "f"; limit = 1048576 }) ∷ (record { name = codes "m"; limit = 16777216 })
    ∷ (record { name = codes "s"; limit = 16777216 }) ∷ []
loads_of_runsv = refl

loads_of_gen : loads_of (gen_form 7) ≡ []
loads_of_gen = refl

-- Words without a form.

of_none : form_of [] ≡ None
of_none = refl

of_help : form_of (codes "help" ∷ []) ≡ None
of_help = refl

of_help_of_check : form_of (codes "help" ∷ codes "check" ∷ []) ≡ None
of_help_of_check = refl

of_no_operand : form_of (codes "check" ∷ []) ≡ None
of_no_operand = refl

of_two_operands : form_of (codes "check" ∷ codes "x" ∷ codes "y" ∷ []) ≡ None
of_two_operands = refl

of_flag : form_of (codes "check" ∷ codes "-v" ∷ []) ≡ None
of_flag = refl

of_empty_word : form_of (codes "check" ∷ [] ∷ []) ≡ None
of_empty_word = refl

of_empty_first_word : form_of ([] ∷ codes "f" ∷ []) ≡ None
of_empty_first_word = refl

of_run_with_four : form_of (codes "run" ∷ codes "f" ∷ codes "m" ∷ codes "p" ∷ codes "s" ∷ []) ≡ None
of_run_with_four = refl

of_runsv_with_three : form_of (codes "runsv" ∷ codes "f" ∷ codes "p" ∷ codes "s" ∷ []) ≡ None
of_runsv_with_three = refl

of_gen_zero : form_of (codes "gen" ∷ codes "0" ∷ []) ≡ None
unfolding digits number_of
of_gen_zero = refl

of_gen_past : form_of (codes "gen" ∷ codes "65" ∷ []) ≡ None
unfolding digits number_of
of_gen_past = refl

of_gen_leading_zero : form_of (codes "gen" ∷ codes "01" ∷ []) ≡ None
unfolding digits number_of
of_gen_leading_zero = refl

of_gen_word : form_of (codes "gen" ∷ codes "x" ∷ []) ≡ None
unfolding digits number_of
of_gen_word = refl
