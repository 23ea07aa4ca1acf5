use Rattle.std.proofs.Common.{◌∙◌, sym, drop}
use Rattle.source_text.proofs.module_text_lemmas.ModuleTextLemmas.{without_mark-marked, without_mark-unmarked}
use Rattle.source_text.proofs.module_text.without_mark.Goals as goal

pub returns-in-Some : goal.returns-in-Some
returns-in-Some c =
    let stripped = c.in-Some.ensures.cases in
    stripped.2 ∙ sym (without_mark-marked c.args.text.now (drop stripped.0 c.args.text.now) stripped.1.1)

pub returns-in-None : goal.returns-in-None
returns-in-None c = sym (without_mark-unmarked c.args.text.now c.in-None.ensures.cases)
