use Rattle.std.proofs.Common.{◌≡◌, ◌+◌, ◌∷◌, ◌++◌, [], ◌∙◌, arith, refl, sym, ap, length, take, length-append}
use Rattle.machine_parts.specs.declared.frame.Keep.TheVariants as keep
use Rattle.machine_parts.specs.Frames.{source_keeps}
use Rattle.module_frame.proofs.GrowingThreads.{get_inside, keeps_more}
use Rattle.module_frame.proofs.frame.source_keeps.Goals as goal

pub loop-register-preserved : goal.loop-register-preserved
loop-register-preserved c =
    let index = c.loop-register._register-index in
    let registers = c.args.registers.now in
    let kept = c.loop-register.keeps.items in
    let length_is = c.len-number.ensures in
    let count = c.loop-register.invariant.count in
    let at : c.len-number.result ≡ index = omega (arith, length_is, count) in
    let pushed = c.in_ok-push.ensures.items in
    let longer = ap length pushed ∙ length-append kept (keep.Source c.len-number.result ∷ []) in
    let is = get_inside registers index c._register-item.result c.loop-register-test.true c._register-item.is in
    record {
      same =
          pushed ∙ ap (λ z. z ++ keep.Source c.len-number.result ∷ []) c.loop-register.invariant.same
          ∙ ap (λ n. source_keeps 0 (take index registers) ++ keep.Source n ∷ []) at
          ∙ sym (keeps_more registers index (index + 1) c._register-item.result refl is);
      count = omega (arith, longer, count);
    }
