use Rattle.shared_analyses.proofs.KeptLemmas.{kept_again, learnt}
use Rattle.shared_analyses.proofs.shared.SharedAnalyses.get_or_analyse.Goals as goal

pub returns-in-Ok-clause-kept : goal.returns-in-Ok-clause-kept
returns-in-Ok-clause-kept c =
    kept_again c.args.note.now.note.known c.args.self.now.answers c.args.i c.index-answers-i.result c.in-Ok.kept.now _
    c.requires.range (rw (← c.as_slice-answers.ensures) c.index-answers-i.is) c.in-Ok.ensures.value.1
    c.shown.ensures.kept

pub returns-in-Ok-clause-learns : goal.returns-in-Ok-clause-learns
returns-in-Ok-clause-learns c =
    learnt c.get_or_try_init_as.new.note.known c.args.self.now.answers c.args.i c.index-answers-i.result c.in-Ok.kept.now _
    c.requires.range (rw (← c.as_slice-answers.ensures) c.index-answers-i.is) c.in-Ok.ensures.value.0
    c.shown.ensures.tells
