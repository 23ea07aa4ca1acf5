-- Members of types in braces, their keys and results.
use Rattle.std.specs.Prelude.{ℕ, ◌+◌, Bool, true, not, ◌&&◌, ◌||◌, List, Option, Some, None, slice_get}
use Rattle.es_token.specs.declared.token.TokenKind.{TokenKind}
use Rattle.es_token.specs.declared.token.TokenKind.TheVariants as k
use Rattle.grammar_theory.specs.Key.{Key, TokenTest, seen, same_kind, has_kind, is, is_after_line}
use Rattle.grammar_theory.specs.Productions.{as_str, as_name, as_raw, as_kind, as_there, greedy, Predicate, Rhs, done, tok, punct, row, opt, alt, when_, where_, Production, make, choose, pick}
use Rattle.es_grammar.specs.types.Words.{only, is_name, is_word, is_numeric, is_accessor_word, is_near, begins_key, partner_of}
use Rattle.es_grammar.specs.declared.types.rows.TypeRow.{TypeRow as Row}
use Rattle.es_grammar.specs.declared.types.rows.TypeRow.TheVariants.{TypeRow, EntityRow, KeyRow, ResultRow}
use Rattle.es_grammar.specs.types.TypeRows.{NodeKind, CallSignature, ConstructSignature, IndexSignature, AccessorSignature, MethodSignature, PropertySignature, ReadonlyProperty, WordKey, StrKey, NumberKey, ComputedKey}
use Rattle.es_grammar.specs.types.Parameters.{parameters_in, mark_in, type_in}

-- (':' Ret)?, and what stands behind it
unfoldable pub result_in : Rhs Row → Rhs Row
result_in f = opt (greedy (is k.Colon)) (punct k.Colon (row (ResultRow true) done)) f

-- `;` or `,`
unfoldable pub is_separator : TokenKind → Bool
is_separator kind = same_kind kind k.Semicolon || same_kind kind k.Comma

-- before SEP: `;` or `,`, or `}`, or a token on a new line
unfoldable pub may_separate : TokenTest
may_separate x = has_kind is_separator x || (is k.CloseBrace x || is_after_line x)

-- SEP: `;` or `,`, which is taken where it is there
unfoldable pub separator : Rhs Row
separator = when_ may_separate (opt (greedy (has_kind is_separator)) (tok as_there is_separator done) done)

-- `(` or `<`
unfoldable pub opens_parameters : TokenTest
opens_parameters x = is k.OpenParen x || is k.Less x

-- TParams? '(' Params ')' (':' Ret)? SEP
unfoldable pub call_signature : Production Row NodeKind
call_signature = make CallSignature (parameters_in (result_in separator))

-- `new` before `(` or `<` opens the construct signature, and is no key
unfoldable pub opens_construct : Predicate
opens_construct K at = is k.NewWord (seen K at) && opens_parameters (seen K (at + 1))

-- 'new' TParams? '(' Params ')' (':' Type)? SEP
unfoldable pub construct_signature : Production Row NodeKind
construct_signature = make ConstructSignature (punct k.NewWord (parameters_in (type_in separator)))

-- `readonly` is a modifier before a key or `*` on its line
unfoldable pub opens_readonly : Predicate
opens_readonly K at =
    is k.ReadonlyWord (seen K at)
    && (is_near (seen K (at + 1)) && (begins_key (seen K (at + 1)) || is k.Star (seen K (at + 1))))

-- '[' Name ':'
unfoldable pub shows_index : Predicate
shows_index K at = is k.OpenBracket (seen K at) && (has_kind is_name (seen K (at + 1)) && is k.Colon (seen K (at + 2)))

unfoldable pub opens_index : Predicate
opens_index K at = shows_index K at || (opens_readonly K at && shows_index K (at + 1))

-- 'readonly'? '[' Name ':' Type ']' (':' Type)? SEP
unfoldable pub index_signature : Production Row NodeKind
index_signature =
    make IndexSignature (opt (greedy (is k.ReadonlyWord)) (tok as_there (only k.ReadonlyWord) done)
    (punct k.OpenBracket (tok as_name is_name (punct k.Colon (row (TypeRow true) (punct k.CloseBracket
    (type_in separator)))))))

-- `get` and `set` are modifiers before a key
unfoldable pub opens_accessor : Predicate
opens_accessor K at = has_kind is_accessor_word (seen K at) && begins_key (seen K (at + 1))

-- ('get' | 'set') TKey '?'? TParams? '(' Params ')' (':' Ret)? SEP
unfoldable pub accessor_signature : Production Row NodeKind
accessor_signature =
    make AccessorSignature (tok as_kind is_accessor_word (row KeyRow (mark_in (parameters_in (result_in separator)))))

-- the place behind a key, by the number of the bracket that matches its first token
abbrev pub behind_key : ℕ → Option ℕ → ℕ
behind_key at (Some closer) = closer + 1
behind_key at None = at + 1

-- `(` or `<`, or these behind `?`
abbrev pub shows_parameters : List Key → ℕ → Bool
shows_parameters K at =
    opens_parameters (seen K at) || (is k.Question (seen K at) && opens_parameters (seen K (at + 1)))

-- a key, and its `?`, before `(` or `<`, on a new line too
unfoldable pub opens_method : Predicate
opens_method K at = shows_parameters K (behind_key at (partner_of (slice_get K at)))

-- TKey '?'? TParams? '(' Params ')' (':' Ret)? SEP
unfoldable pub method_signature : Production Row NodeKind
method_signature = make MethodSignature (row KeyRow (mark_in (parameters_in (result_in separator))))

-- TKey '?'? (':' Type)? SEP
unfoldable pub property_signature : Production Row NodeKind
property_signature = make PropertySignature (row KeyRow (mark_in (type_in separator)))

-- behind the modifier `readonly` stands the key of a property
unfoldable pub is_property_key : Predicate
is_property_key K at = not (opens_accessor K at) && not (opens_method K at)

-- 'readonly' TKey '?'? (':' Type)? SEP
unfoldable pub readonly_property : Production Row NodeKind
readonly_property =
    make ReadonlyProperty (punct k.ReadonlyWord (where_ is_property_key (row KeyRow (mark_in (type_in separator)))))

-- TMember
unfoldable pub member : Production Row NodeKind
member =
    choose opens_parameters call_signature
    (pick opens_construct construct_signature
    (pick opens_index index_signature
    (pick opens_accessor accessor_signature
    (pick opens_readonly readonly_property
    (pick opens_method method_signature property_signature)))))

-- '[' (Entity | Str | Number | BigInt) ']'
unfoldable pub computed_key : Production Row NodeKind
computed_key =
    make ComputedKey (punct k.OpenBracket (alt (is k.Str) (tok as_str (only k.Str) done)
    (alt (has_kind is_numeric) (tok as_raw is_numeric done) (row EntityRow done) done)
    (punct k.CloseBracket done)))

-- TKey: Word | Str | Number | '[' (Entity | Str | Number | BigInt) ']'
unfoldable pub key : Production Row NodeKind
key =
    choose (has_kind is_word) (make WordKey (tok as_name is_word done))
    (choose (is k.Str) (make StrKey (tok as_str (only k.Str) done))
    (choose (is k.Number) (make NumberKey (tok as_raw (only k.Number) done)) computed_key))
