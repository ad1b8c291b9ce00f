-- A deed names one port.
use Rattle.std.proofs.Common.{◌≡◌, ℕ, subst, sym, ◌∙◌}
use Rattle.core_term.specs.AcceptedFile.{process_in}
use Rattle.act_deeds.specs.declared.deed.Deed.TheVariants.{Sends}
use Rattle.life_tables.specs.Lives.{HasLife, body_in}
use Rattle.life_tables.proofs.lasts.add_act.Goals as goal

one_port : (one other : ℕ) → Sends one ≡ Sends other → one ≡ other
one_port one other is = cc

pub returns-in_ok-add_life-clause-added : goal.returns-in_ok-add_life-clause-added
returns-in_ok-add_life-clause-added c = λ widths port is.
    let setting = c.args.setting.now in
    let Life : ℕ → Type 0 = λ m. HasLife (process_in setting.proc.now) (body_in widths setting) c.add_life.new.lasts c.args.site m in
    subst Life (one_port c.in-Sends.port port (sym c.in-Sends.is ∙ is)) (c.in_ok-add_life.ensures.added widths)
