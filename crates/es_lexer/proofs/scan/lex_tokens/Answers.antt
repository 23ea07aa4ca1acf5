-- A text has one reading or one fault, so what is answered is the one that there is.
use Rattle.es_lexer.proofs.AnswerLemmas.{only_lists, only_fault}
use Rattle.es_lexer.proofs.scan.lex_tokens.Goals as goal

pub returns-clause-only : goal.returns-clause-only
returns-clause-only c = only_lists c.args.text.now c.scan.result c.scan.ensures.read c.scan.ensures.stopped

pub returns-clause-fault : goal.returns-clause-fault
returns-clause-fault c = only_fault c.args.text.now c.scan.result c.scan.ensures.read c.scan.ensures.stopped
