use Rattle.std.proofs.Common.{◌∙◌, rules, sym}
use Rattle.std.specs.Prelude.{String, string_bytes}
use Rattle.std.specs.declared.alloc.Global.{Global}
use Rattle.std.proofs.lemmas.Iterator.Search.{all_from_yields_List}
use Rattle.std.proofs.lemmas.Iterator.{YieldsList-from_slice}
use Rattle.std.proofs.lemmas.List.Folds.{list_all-map}
use Rattle.command_words.specs.Form.{is_operand}
use Rattle.command_words.proofs.words.all_operands.Goals as goal

pub returns : goal.returns
returns c =
    all_from_yields_List (λ (word : String Global). is_operand (string_bytes word)) _ _ c.all.result c.all.ensures.ran (YieldsList-from_slice c.args.words.now cc) (λ x b q k. search rules)
    ∙ sym (list_all-map is_operand string_bytes c.args.words.now)
