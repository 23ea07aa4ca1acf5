use Rattle.std.proofs.Common.{refl, true, false}
use Rattle.graph_entry.specs.Specifier.{text_of}
use Rattle.graph_builder.specs.Rules.{rules_by}
use Rattle.graph_builder.specs.Progress.{at}
use Rattle.graph_builder.specs.Inside.{seen_of}
use Rattle.graph_builder.proofs.ResultLemmas.{result_graph, result_limit, result_firsts, result_asked, answered_now, none_open, result_not_yet, result_unasked, result_fair, result_too_many, unawaited_none, unasked_same, result_history}
use Rattle.graph_builder.proofs.inner.Inner.poll.Goals as goal

-- ---- the graph

pub finish-requires : goal.finish-requires
finish-requires g c =
    none_open (at (g.L.Loader.seen c.run.new.loader) c.run.new.self) c.in-Ok.ensures.runs.live
    c.in-Ok.ensures.runs.all_taken c.in-Ok.ensures.runs.asked_all

pub returns-in-Ok-finish-clause-graph : goal.returns-in-Ok-finish-clause-graph
returns-in-Ok-finish-clause-graph g c =
    rw (← c.self.view_is)
    (result_graph {rules =
    rules_by (g.W.Ways.means c.self.inside.following) (g.W.Ways.follows c.self.inside.following)}
    (g.met.W.Ways.once c.self.inside.following)
    (at (g.L.Loader.seen c.self.inside.loader) c.self.inside.progress)
    (at (g.L.Loader.seen c.run.new.loader) c.run.new.self) c.run.new.self.reaching.reached _
    c.in-Ok.ensures.runs c.run.ensures.goes refl
    c.in-Ok-finish.ensures.once c.in-Ok-finish.ensures.entries)

pub returns-in-Ok-finish-clause-limit : goal.returns-in-Ok-finish-clause-limit
returns-in-Ok-finish-clause-limit g c =
    rw (← c.self.view_is)
    (result_limit {rules = rules_by (g.W.Ways.means c.self.inside.following) (g.W.Ways.follows c.self.inside.following)}
    (at (g.L.Loader.seen c.self.inside.loader) c.self.inside.progress)
    (at (g.L.Loader.seen c.run.new.loader) c.run.new.self) c.run.new.self.reaching.reached _
    c.in-Ok.ensures.runs c.run.ensures.goes refl
    c.in-Ok-finish.ensures.entries)

pub returns-in-Ok-finish-clause-firsts : goal.returns-in-Ok-finish-clause-firsts
returns-in-Ok-finish-clause-firsts g c =
    rw (← c.self.view_is)
    (result_firsts {rules =
    rules_by (g.W.Ways.means c.self.inside.following) (g.W.Ways.follows c.self.inside.following)}
    (g.W.Ways.resolves c.self.inside.following) c.self.inside.roots c.self.inside.imports
    (at (g.L.Loader.seen c.self.inside.loader) c.self.inside.progress)
    (at (g.L.Loader.seen c.run.new.loader) c.run.new.self) c.run.new.self.reaching.reached _
    c.self.invariant.starting c.in-Ok.ensures.runs c.run.ensures.goes refl c.in-Ok-finish.ensures.entries)

pub returns-in-Ok-finish-clause-asked : goal.returns-in-Ok-finish-clause-asked
returns-in-Ok-finish-clause-asked g c =
    rw (← c.self.view_is)
    (result_asked {rules =
    rules_by (g.W.Ways.means c.self.inside.following) (g.W.Ways.follows c.self.inside.following)}
    (g.met.W.Ways.once c.self.inside.following)
    (at (g.L.Loader.seen c.self.inside.loader) c.self.inside.progress)
    (at (g.L.Loader.seen c.run.new.loader) c.run.new.self) c.in-Ok.ensures.runs c.run.ensures.goes)

pub returns-in-Ok-finish-clause-answered : goal.returns-in-Ok-finish-clause-answered
returns-in-Ok-finish-clause-answered g c =
    answered_now (rules_by (g.W.Ways.means c.self.inside.following) (g.W.Ways.follows c.self.inside.following))
    (at (g.L.Loader.seen c.run.new.loader) c.run.new.self)
    c.in-Ok.ensures.runs.live c.in-Ok.ensures.runs.all_taken

-- ---- why there is none

pub returns-in-Err-NotYet-clause-not_yet : goal.returns-in-Err-NotYet-clause-not_yet
returns-in-Err-NotYet-clause-not_yet g c = λ same.
    rw (← c.self.view_is)
    (result_not_yet {rules =
    rules_by (g.W.Ways.means c.self.inside.following) (g.W.Ways.follows c.self.inside.following)}
    (g.met.W.Ways.once c.self.inside.following) _ _
    c.self.inside.following c.self.inside.roots c.self.inside.imports
    (at (g.L.Loader.seen c.self.inside.loader) c.self.inside.progress)
    (at (g.L.Loader.seen c.run.new.loader) c.run.new.self) _ _
    (rw c.in-Err-NotYet.field-0-is at c.in-Err-NotYet.ensures.runs) c.run.ensures.goes c.self.invariant.kept
    c.count-count.ensures.once)

pub returns-in-Err-TooManyModules-clause-complete : goal.returns-in-Err-TooManyModules-clause-complete
returns-in-Err-TooManyModules-clause-complete g c = λ live within orderly still.
    absurd (result_too_many (at (g.L.Loader.seen c.self.inside.loader) c.self.inside.progress) _
    c.in-Err-TooManyModules.seen (rw c.in-Err-TooManyModules.field-0-is at c.in-Err-TooManyModules.ensures.runs)
    (rw (← c.self.view_is) at within))

pub returns-in-Err-UnaskedAnswer-clause-unasked : goal.returns-in-Err-UnaskedAnswer-clause-unasked
returns-in-Err-UnaskedAnswer-clause-unasked g c = λ s same.
    rw (← unasked_same c.in-Err-UnaskedAnswer.specifier s same, ← c.self.view_is)
    (result_unasked {rules =
    rules_by (g.W.Ways.means c.self.inside.following) (g.W.Ways.follows c.self.inside.following)}
    (g.met.W.Ways.once c.self.inside.following) 1 _ c.run.new.loader
    c.self.inside.following c.self.inside.roots c.self.inside.imports
    (at (g.L.Loader.seen c.self.inside.loader) c.self.inside.progress)
    (at (g.L.Loader.seen c.run.new.loader) c.run.new.self) _ true (text_of c.in-Err-UnaskedAnswer.specifier)
    (rw c.in-Err-UnaskedAnswer.field-0-is at c.in-Err-UnaskedAnswer.ensures.runs))

pub returns-in-Err-UnaskedAnswer-clause-complete : goal.returns-in-Err-UnaskedAnswer-clause-complete
returns-in-Err-UnaskedAnswer-clause-complete g c = λ live within orderly still.
    absurd (unawaited_none
    (rules_by (g.W.Ways.means c.self.inside.following) (g.W.Ways.follows c.self.inside.following))
    (seen_of c.self.inside.loader c.self.inside.following c.self.inside.roots c.self.inside.imports
    (at (g.L.Loader.seen c.self.inside.loader) c.self.inside.progress) c.self.inside.finished)
    (seen_of c.run.new.loader c.self.inside.following c.self.inside.roots c.self.inside.imports
    (at (g.L.Loader.seen c.run.new.loader) c.run.new.self) true)
    (text_of c.in-Err-UnaskedAnswer.specifier)
    (result_unasked {rules =
    rules_by (g.W.Ways.means c.self.inside.following) (g.W.Ways.follows c.self.inside.following)}
    (g.met.W.Ways.once c.self.inside.following) 1
    c.self.inside.loader c.run.new.loader c.self.inside.following c.self.inside.roots c.self.inside.imports
    (at (g.L.Loader.seen c.self.inside.loader) c.self.inside.progress)
    (at (g.L.Loader.seen c.run.new.loader) c.run.new.self) c.self.inside.finished true
    (text_of c.in-Err-UnaskedAnswer.specifier)
    (rw c.in-Err-UnaskedAnswer.field-0-is at c.in-Err-UnaskedAnswer.ensures.runs))
    (rw (← c.self.view_is) at orderly))

pub returns-in-Err-UnaskedAnswer-clause-fair : goal.returns-in-Err-UnaskedAnswer-clause-fair
returns-in-Err-UnaskedAnswer-clause-fair g c =
    rw (← c.self.view_is)
    (result_fair 1 c.self.inside.loader c.self.inside.following c.self.inside.roots c.self.inside.imports
    (at (g.L.Loader.seen c.self.inside.loader) c.self.inside.progress)
    (at (g.L.Loader.seen c.run.new.loader) c.run.new.self) c.self.inside.finished
    c.in-Err-UnaskedAnswer.specifier c.self.invariant.kept c.run.ensures.kept c.run.ensures.goes
    (rw c.in-Err-UnaskedAnswer.field-0-is at c.in-Err-UnaskedAnswer.ensures.runs))

-- ---- on every answer

pub returns-in-Ok-finish-clause-history : goal.returns-in-Ok-finish-clause-history
returns-in-Ok-finish-clause-history g c =
    rw (← c.self.view_is)
    (result_history c.self.inside.loader c.run.new.loader c.self.inside.following c.self.inside.roots
    c.self.inside.imports
    (at (g.L.Loader.seen c.self.inside.loader) c.self.inside.progress)
    (at (g.L.Loader.seen c.run.new.loader) c.run.new.self)
    c.self.inside.finished true c.run.ensures.goes c.self.invariant.kept c.run.ensures.kept)

pub returns-in-Err-clause-history : goal.returns-in-Err-clause-history
returns-in-Err-clause-history g c =
    rw (← c.self.view_is)
    (result_history c.self.inside.loader c.run.new.loader c.self.inside.following c.self.inside.roots
    c.self.inside.imports
    (at (g.L.Loader.seen c.self.inside.loader) c.self.inside.progress)
    (at (g.L.Loader.seen c.run.new.loader) c.run.new.self)
    c.self.inside.finished true c.run.ensures.goes c.self.invariant.kept c.run.ensures.kept)

pub returns-in-Err-NotYet-clause-history : goal.returns-in-Err-NotYet-clause-history
returns-in-Err-NotYet-clause-history g c =
    rw (← c.self.view_is)
    (result_history c.self.inside.loader c.run.new.loader c.self.inside.following c.self.inside.roots
    c.self.inside.imports
    (at (g.L.Loader.seen c.self.inside.loader) c.self.inside.progress)
    (at (g.L.Loader.seen c.run.new.loader) c.run.new.self)
    c.self.inside.finished false c.run.ensures.goes c.self.invariant.kept c.run.ensures.kept)

pub returns-in-Err-TooManyModules-clause-history : goal.returns-in-Err-TooManyModules-clause-history
returns-in-Err-TooManyModules-clause-history g c =
    rw (← c.self.view_is)
    (result_history c.self.inside.loader c.run.new.loader c.self.inside.following c.self.inside.roots
    c.self.inside.imports
    (at (g.L.Loader.seen c.self.inside.loader) c.self.inside.progress)
    (at (g.L.Loader.seen c.run.new.loader) c.run.new.self)
    c.self.inside.finished true c.run.ensures.goes c.self.invariant.kept c.run.ensures.kept)

pub returns-in-Err-UnaskedAnswer-clause-history : goal.returns-in-Err-UnaskedAnswer-clause-history
returns-in-Err-UnaskedAnswer-clause-history g c =
    rw (← c.self.view_is)
    (result_history c.self.inside.loader c.run.new.loader c.self.inside.following c.self.inside.roots
    c.self.inside.imports
    (at (g.L.Loader.seen c.self.inside.loader) c.self.inside.progress)
    (at (g.L.Loader.seen c.run.new.loader) c.run.new.self)
    c.self.inside.finished true c.run.ensures.goes c.self.invariant.kept c.run.ensures.kept)

pub returns-in-Err-OutOfMemory-clause-history : goal.returns-in-Err-OutOfMemory-clause-history
returns-in-Err-OutOfMemory-clause-history g c =
    rw (← c.self.view_is)
    (result_history c.self.inside.loader c.run.new.loader c.self.inside.following c.self.inside.roots
    c.self.inside.imports
    (at (g.L.Loader.seen c.self.inside.loader) c.self.inside.progress)
    (at (g.L.Loader.seen c.run.new.loader) c.run.new.self)
    c.self.inside.finished true c.run.ensures.goes c.self.invariant.kept c.run.ensures.kept)
