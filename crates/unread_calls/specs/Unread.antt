-- The calls that may load a module and for which a graph has no edge (ECMA-262, ImportCall; Node.js, "require"; this
-- project's profile).
use Rattle.std.specs.Prelude.{ℕ, ◌+◌, ◌-◌, nat_le, Bool, false, not, ◌&&◌, ◌||◌, List, length, slice_get, filter_map, Option, Some, None, if◌then◌else◌}
use Rattle.std.specs.List.{range_with_len}
use Rattle.std.specs.Option.{option_and_then, option_map}
use Rattle.es_token.specs.declared.token.Token.{Token}
use Rattle.es_token.specs.declared.token.TokenKind.{TokenKind}
use Rattle.es_token.specs.declared.token.TokenKind.TheVariants.{ImportWord, RequireWord}
use Rattle.unread_calls.specs.declared.call.Loader.{Loader}
use Rattle.unread_calls.specs.declared.call.Loader.TheVariants.{Import, Require}
use Rattle.unread_calls.specs.declared.call.UnreadCall.{UnreadCall}
use Rattle.unread_calls.specs.Kinds.{is_opening, is_closing, ends_argument, is_string, is_colon, is_brace, is_equal, names, is_heritage, declares, is_dot, is_import, is_phase}

-- ---- around the word with a number

-- the kind of a token, where there is one
abbrev pub kind_of : Option Token → Option TokenKind
kind_of token = option_map (λ t. t.kind) token

-- the kind of the token with this number
abbrev pub kind_at : List Token → ℕ → Option TokenKind
kind_at tokens i = kind_of (slice_get tokens i)

-- the token that stands this many in front of that one, and its kind
abbrev pub token_before : List Token → ℕ → ℕ → Option Token
token_before tokens i count = if nat_le count i then slice_get tokens (i - count) else None

abbrev pub kind_before : List Token → ℕ → ℕ → Option TokenKind
kind_before tokens i count = kind_of (token_before tokens i count)

-- a bracket stands behind the word, and something in the bracket
abbrev pub takes_argument : List Token → ℕ → Bool
takes_argument tokens i = is_opening (kind_at tokens (i + 1)) && not (is_closing (kind_at tokens (i + 2)))

-- the bracket's first argument is a string literal alone
abbrev pub takes_literal : List Token → ℕ → Bool
takes_literal tokens i = is_string (kind_at tokens (i + 2)) && ends_argument (kind_at tokens (i + 3))

-- the number of the bracket that closes it
abbrev pub closing : List Token → ℕ → Option ℕ
closing tokens i = option_and_then (λ t. t.partner) (slice_get tokens (i + 1))

-- ---- what stands in front of the bracket's word

-- the word is a phase, behind `import` and `.`
abbrev pub is_in_phase : List Token → ℕ → Bool
is_in_phase tokens i =
    is_phase (kind_at tokens i) && is_dot (kind_before tokens i 1) && is_import (kind_before tokens i 2)

-- the number of the first word of what is called: of `import` in `import.source`
abbrev pub head : List Token → ℕ → ℕ
head tokens i = if is_in_phase tokens i then i - 2 else i

-- ---- what is a name alone

-- a token on the line of the one in front of it
abbrev pub is_near : Option Token → Bool
is_near (Some t) = not t.line_before
is_near None = false

-- `{` on the line of the one in front of it
abbrev pub opens_body : Option Token → Bool
opens_body (Some t) = is_brace t.kind && not t.line_before
opens_body None = false

abbrev pub behind_closing : List Token → ℕ → Option Token
behind_closing tokens i = option_and_then (λ close. slice_get tokens (close + 1)) (closing tokens i)

-- a body stands behind the bracket, so that the word is a method's name; what a class extends has one behind it too
abbrev pub has_body : List Token → ℕ → Bool
has_body tokens i = opens_body (behind_closing tokens i) && not (is_heritage (kind_before tokens (head tokens i) 1))

-- the word is the name of a property, of a function, or of a method, whose first parameter has a type or which has a body
abbrev pub is_name : List Token → ℕ → Bool
is_name tokens i =
    names (kind_before tokens (head tokens i) 1) || is_colon (kind_at tokens (i + 3)) || has_body tokens i

-- ---- what has an edge

-- `import a = require("b")`, or the same with `type`
abbrev pub is_import_equals : List Token → ℕ → Bool
is_import_equals tokens i =
    is_equal (kind_before tokens i 1) && is_near (token_before tokens i 2) && declares (kind_before tokens i 3)
    && takes_literal tokens i

abbrev pub has_edge : Loader → List Token → ℕ → Bool
has_edge Import tokens i = takes_literal tokens i
has_edge Require tokens i = is_import_equals tokens i

-- ---- the calls

-- what a word calls
abbrev pub loader_of : Option TokenKind → Option Loader
loader_of (Some ImportWord) = Some Import
loader_of (Some RequireWord) = Some Require
loader_of _ = None

abbrev pub loader_at : List Token → ℕ → Option Loader
loader_at tokens i = if is_in_phase tokens i then Some Import else loader_of (kind_at tokens i)

-- the word calls it, and no edge stands for that
abbrev pub is_unread : Loader → List Token → ℕ → Bool
is_unread loader tokens i = takes_argument tokens i && not (is_name tokens i) && not (has_edge loader tokens i)

-- the call from the word through the closing bracket
abbrev pub call_of : Loader → Token → Token → UnreadCall
call_of loader word close =
    record { loader = loader; range = record { start = word.range.start; end = close.range.end } }

abbrev pub call_at : Loader → List Token → ℕ → Option UnreadCall
call_at loader tokens i =
    option_and_then (λ word. option_map (call_of loader word) (option_and_then (slice_get tokens) (closing tokens i)))
    (slice_get tokens (head tokens i))

-- the call of the word with this number, where no edge stands for it
abbrev pub unread_at : List Token → ℕ → Option UnreadCall
unread_at tokens i =
    option_and_then (λ loader. if is_unread loader tokens i then call_at loader tokens i else None)
    (loader_at tokens i)

-- all of them, in the order of the text
abbrev pub unread_of : List Token → List UnreadCall
unread_of tokens = filter_map (unread_at tokens) (range_with_len 0 (length tokens))
