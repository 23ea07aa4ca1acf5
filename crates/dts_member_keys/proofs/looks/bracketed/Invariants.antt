-- What is looked at is told of the expression in brackets.
use Rattle.es_syntax.specs.Held.{valued}
use Rattle.es_syntax.specs.Roles.{expr_in}
use Rattle.dts_member_keys.specs.Looks.{Looked}
use Rattle.dts_member_keys.proofs.LookLemmas.{depth}
use Rattle.dts_member_keys.proofs.looks.bracketed.Given as goal

abbrev pub invariant-loop-look : goal.invariant-loop-look
invariant-loop-look l = Looked l.env l.look (expr_in (valued l.env.text.now l.env.tokens.now l.it))

abbrev pub decreases-loop-look : goal.decreases-loop-look
decreases-loop-look l = depth l.look
