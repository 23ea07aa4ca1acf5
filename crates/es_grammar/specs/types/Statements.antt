-- Predicates of statements and declarations (ECMA-262, "ECMAScript Language: Statements and Declarations").
use Rattle.std.specs.Prelude.{ℕ, zero, suc, ◌+◌, ◌-◌, ltb, Bool, false, not, ◌&&◌, ◌||◌, if◌then◌else◌, List, Option, Some, None, slice_get, length}
use Rattle.es_token.specs.declared.token.TokenKind.{TokenKind}
use Rattle.es_token.specs.declared.token.TokenKind.TheVariants as k
use Rattle.grammar_theory.specs.Key.{Key, TokenTest, seen, same_kind, has_kind, is}
use Rattle.grammar_theory.specs.Productions.{as_name, greedy, Predicate, Rhs, done, tok, opt, when_}
use Rattle.es_grammar.specs.types.Words.{is_name, is_near, is_other, partner_of, closes_before}
use Rattle.es_grammar.specs.declared.rows.Context.{Context}
use Rattle.es_grammar.specs.declared.rows.Row.{Row}
use Rattle.es_grammar.specs.types.Modules.{ended}
use Rattle.es_grammar.specs.types.Expressions.{begins_expression}

-- ---- declarations

-- `var`, `let`, `const`
unfoldable pub is_variable_word : TokenKind → Bool
is_variable_word kind = same_kind kind k.VarWord || (same_kind kind k.LetWord || same_kind kind k.ConstWord)

-- `using` before a name on its line, but `of` where no `await` stands before it
unfoldable pub opens_using : Predicate
opens_using K at =
    (is k.UsingWord (seen K at) && (is_near (seen K (at + 1)) && (has_kind is_name (seen K (at + 1))
    && is_other k.OfWord (seen K (at + 1)))))
    || (is k.AwaitWord (seen K at) && (is_near (seen K (at + 1)) && (is k.UsingWord (seen K (at + 1))
    && (is_near (seen K (at + 2)) && has_kind is_name (seen K (at + 2))))))

-- ---- loops

-- the place behind a token, or behind the bracket that it opens
abbrev pub step_over : ℕ → Option ℕ → ℕ
step_over at (Some n) = if ltb at n then n + 1 else at + 1
step_over at None = at + 1

-- a `;` stands directly between these places
abbrev pub has_semicolon : List Key → ℕ → ℕ → ℕ → Bool
has_semicolon K zero at to = false
has_semicolon K (suc n) at to =
    ltb at to && (is k.Semicolon (seen K at) || has_semicolon K n (step_over at (partner_of (slice_get K at))) to)

abbrev pub has_semicolon_in : List Key → ℕ → Option ℕ → Bool
has_semicolon_in K at (Some closer) = has_semicolon K (length K) (at + 1) closer
has_semicolon_in K at None = false

-- `for` before a head with `;`
unfoldable pub opens_for : Predicate
opens_for K at = has_semicolon_in K (at + 1) (partner_of (slice_get K (at + 1)))

unfoldable pub opens_for_await : Predicate
opens_for_await K at = is k.AwaitWord (seen K (at + 1))

-- `of` or `in`
unfoldable pub is_each : TokenTest
is_each x = is k.OfWord x || is k.InWord x

-- `[` or `{` whose closer is followed by `of` or `in`
unfoldable pub opens_head_pattern : Predicate
opens_head_pattern K at = (is k.OpenBracket (seen K at) || is k.OpenBrace (seen K at)) && closes_before is_each K at

-- in scripts
unfoldable pub is_script : Context → Predicate
is_script c K at = c.script

-- the head begins here with `using`, or with an expression
unfoldable pub starts_using : Predicate
starts_using K at = is k.OpenParen (seen K (at - 1)) && opens_using K at

unfoldable pub starts_expression : Predicate
starts_expression K at =
    is k.OpenParen (seen K (at - 1)) && (is_other k.Semicolon (seen K at) && not (opens_using K at))

-- ---- statements

-- a name on the line of the token before it
unfoldable pub is_label_here : TokenTest
is_label_here x = is_near x && has_kind is_name x

-- (~ Name)? END
unfoldable pub label_ended : Rhs Row
label_ended = opt (greedy is_label_here) (when_ is_near (tok as_name is_name done)) ended

unfoldable pub is_value_here : TokenTest
is_value_here x = is_near x && begins_expression x

-- a clause of `switch` begins here, and its statements end before such a clause or `}`
unfoldable pub is_case : TokenTest
is_case x = is k.CaseWord x || is k.DefaultWord x

unfoldable pub is_in_case : TokenTest
is_in_case x = not (is_case x) && is_other k.CloseBrace x

-- a name before `:`
unfoldable pub opens_label : Predicate
opens_label K at = has_kind is_name (seen K at) && is k.Colon (seen K (at + 1))

-- an expression statement begins with neither `{`, `function` nor `class`
unfoldable pub begins_no_other : TokenTest
begins_no_other x = not (is k.OpenBrace x || (is k.FunctionWord x || is k.ClassWord x))
