-- No token is empty.
use Rattle.std.proofs.Common.{◌≡◌, true, []}
use Rattle.es_lexer.specs.declared.goal.Goal.{Goal}
use Rattle.es_token.specs.declared.token.TokenKind.{TokenKind}
use Rattle.es_lexer.specs.Bytes.{begins_name}
use Rattle.es_lexer.specs.Signs.{sign_kind}
use Rattle.es_lexer.specs.Spelling.{Spells, word, str, sign, private_name, template, number, regexp, shebang}
use Rattle.es_literal.proofs.spelling_lemmas.NumberLemmas.{no_empty}

nothing_named : begins_name [] ≡ true → ⊥
unfolding begins_name
nothing_named e = cc

pub not_empty : (goal : Goal) (k : TokenKind) → Spells goal k [] → ⊥
unfolding sign_kind
not_empty goal k (word w e) = nothing_named w.starts
not_empty goal k (str l e) = cc
not_empty goal k (sign e) = cc
not_empty goal k (private_name name w s e) = cc
not_empty goal k (template opens sub body t s e) = cc
not_empty goal k (number big i e) = no_empty big i
not_empty goal k (regexp i e) = cc
not_empty goal k (shebang text h f w e) = cc
