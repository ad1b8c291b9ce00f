-- One argument more stands behind those of the labels before.
use Rattle.std.proofs.Common.{◌∙◌, ◌++◌, ◌∷◌, ◌||◌, [], List, ap, ap₂, sym}
use Rattle.std.specs.Prelude.{map, take}
use Rattle.std.proofs.lemmas.List.{map_more, map_push}
use Rattle.clap.specs.Simple.{App, Shape, new_app}
use Rattle.clap.specs.Words.{Rule}
use Rattle.command_words.specs.Matched.{operand_rule}
use Rattle.command_words.proofs.matcher.with_operands.Goals as goal

pub loop-label-init : goal.loop-label-init
loop-label-init c = record { shape = ap (λ (a : App). a.top) c.new-command.ensures.app; local = c.new-command.ensures.local }

pub loop-label-preserved : goal.loop-label-preserved
loop-label-preserved c =
    let added = c.in_ok-command.ensures in
    let labels = c.args.labels.now in
    let k = c.loop-label.label-index in
    let more = map_more (λ label. label.now) labels k (record { ref_ptr = (0, 0); now = [] }) c.loop-label-test.true in
    record {
      shape =
          ap (λ (a : App). a.top) (added.shape c.operand.ensures.local)
          ∙ (ap₂ (λ (s : Shape) (r : Rule). record s { rules = s.rules ++ r ∷ [] }) c.loop-label.invariant.shape c.operand.ensures.rule
          ∙ ap (λ (rules : List Rule). record (new_app c.args.name.now).top { rules = rules })
          (sym (ap (map operand_rule) more ∙ map_push operand_rule (map (λ label. label.now) (take k labels)) _)));
      local = added.globals ∙ ap₂ (λ one other. one || other) c.loop-label.invariant.local c.operand.ensures.local;
    }
