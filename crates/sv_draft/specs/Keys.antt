-- The names of registers as keys.
use Rattle.std.specs.Prelude.{◌==◌, Bool, false, bytes_eq}
use Rattle.sv_tree.specs.declared.tree.SvRegName.{SvRegName}
use Rattle.sv_tree.specs.declared.tree.SvRegName.TheVariants as register
use Rattle.sv_draft.specs.declared.key.RegisterKey.{RegisterKey}
use Rattle.sv_draft.specs.declared.key.RegisterKey.TheVariants.{Source, State}

abbrev pub register_key : SvRegName → RegisterKey
register_key (register.Source name) = Source name
register_key (register.State number) = State number

abbrev pub is_same_key : RegisterKey → RegisterKey → Bool
is_same_key (Source one) (Source other) = bytes_eq one other
is_same_key (Source one) (State number) = false
is_same_key (State number) (Source other) = false
is_same_key (State one) (State other) = one == other
