-- Members of classes in both languages (ECMA-262, "Class Definitions"; the handbook of TypeScript, "Classes").
use Rattle.std.specs.Prelude.{ℕ, zero, suc, ◌+◌, Bool, true, not, ◌&&◌, ◌||◌, if◌then◌else◌, List, length}
use Rattle.es_token.specs.declared.token.TokenKind.{TokenKind}
use Rattle.es_token.specs.declared.token.TokenKind.TheVariants as k
use Rattle.grammar_theory.specs.declared.error.Lang.{Lang}
use Rattle.grammar_theory.specs.Languages.{typed}
use Rattle.grammar_theory.specs.Key.{Key, seen, same_kind, has_kind, is}
use Rattle.grammar_theory.specs.Productions.{as_name, as_kind, as_there, greedy, by_predicate, Predicate, Rhs, done, tok, punct, row, opt, where_, Production, make, choose, pick}
use Rattle.es_grammar.specs.types.Words.{only, is_name, is_accessor_word, is_near}
use Rattle.es_grammar.specs.types.Modules.{ended}
use Rattle.es_grammar.specs.types.Functions.{starts_key, opens_accessor, opens_async, opens_star}
use Rattle.es_grammar.specs.types.Classes.{opens_static, opens_field_accessor, behind_static, is_plain_member, opens_static_block}
use Rattle.es_grammar.specs.types.Members.{shows_index}
use Rattle.es_grammar.specs.declared.rows.NodeKind.TheVariants.{AccessorField, AccessorMember, AsyncMember, EmptyMember, FieldMember, GeneratorMember, IndexMember, MethodMember, StaticBlock, TypedAccessorField, TypedAccessorMember, TypedAsyncMember, TypedFieldMember, TypedGeneratorMember, TypedMethodMember}
use Rattle.es_grammar.specs.declared.rows.Context.{Context}
use Rattle.es_grammar.specs.declared.rows.Row.{Row}
use Rattle.es_grammar.specs.declared.rows.NodeKind.{NodeKind}
use Rattle.es_grammar.specs.declared.rows.Row.TheVariants.{BlockRow, SignatureRow, KeyRow, AssignmentRow}
use Rattle.es_grammar.specs.Rows.{async_in}
use Rattle.es_grammar.specs.Embedding.{label_by, type_then, annotation_in, typed_before, typed_in}
use Rattle.es_grammar.specs.Expressions.{star_in, body_in}
use Rattle.es_grammar.specs.Functions.{is_typed_modifier, modifiers_in, mark_in, opens_any_method, typed_head_in}

-- in TypeScript a modifier of a member: `static` before a key, `*` or `{`, another before a key or `*` on its line
unfoldable pub opens_modifier : Predicate
opens_modifier K at =
    opens_static K at
    || (has_kind is_typed_modifier (seen K at) && (is_near (seen K (at + 1)) && (starts_key true (seen K (at + 1))
    || is k.Star (seen K (at + 1)))))

-- the place behind the modifiers
abbrev pub behind_modifiers : List Key → ℕ → ℕ → ℕ
behind_modifiers K zero at = at
behind_modifiers K (suc n) at = if opens_modifier K at then behind_modifiers K n (at + 1) else at

-- the predicate behind the modifiers
unfoldable pub behind_all : Predicate → Predicate
behind_all g K at = g K (behind_modifiers K (length K) at)

-- behind the modifiers stands a key that is none
unfoldable pub is_member_key : Predicate
is_member_key K at =
    not (opens_modifier K at) && (not (opens_accessor true K at) && (not (opens_async true K at)
    && not (opens_field_accessor K at)))

-- ---- members of both languages

-- 'static'?, which stands once, and what stands behind it
unfoldable pub static_in : Rhs Row → Rhs Row
static_in f = opt (by_predicate opens_static) (tok as_there (only k.StaticWord) done) f

-- ('=' Assign)? END
unfoldable pub value_in : Context → Rhs Row
value_in c =
    opt (greedy (is k.Equal)) (punct k.Equal (row (AssignmentRow c) done)) ended

-- Mod*, or 'static'?, and what stands behind them
unfoldable pub head_in : Lang → Rhs Row → Rhs Row
head_in l f =
    if typed l then modifiers_in opens_modifier (where_ is_member_key f) else static_in (where_ is_plain_member f)

-- Mod*, or 'static'?, and a word or sign before the key
unfoldable pub marked_in : Lang → (Rhs Row → Rhs Row) → Rhs Row → Rhs Row
marked_in l word_in f =
    if typed l then modifiers_in opens_modifier (word_in (where_ is_member_key f))
    else static_in (word_in (where_ is_plain_member f))

abbrev pub accessor_word_in : Rhs Row → Rhs Row
accessor_word_in f = tok as_kind is_accessor_word f

abbrev pub async_word_in : Rhs Row → Rhs Row
async_word_in f = punct k.AsyncWord (star_in f)

abbrev pub star_word_in : Rhs Row → Rhs Row
star_word_in f = punct k.Star f

abbrev pub field_word_in : Rhs Row → Rhs Row
field_word_in f = punct k.AccessorWord f

-- the predicate behind the modifiers
abbrev pub behind : Lang → Predicate → Predicate
behind l g = if typed l then behind_all g else behind_static g

-- Key (TS '?')? Sig (Block | TS END), the key in one place, signature and body in another
unfoldable pub class_method_in : Lang → Context → Context → Rhs Row
class_method_in l c d =
    if typed l then typed_head_in true c d mark_in (body_in l d)
    else row (KeyRow true c) (row (SignatureRow d) (body_in l d))

-- `?` or `!` behind the key of a field
unfoldable pub is_field_mark : TokenKind → Bool
is_field_mark kind = same_kind kind k.Question || same_kind kind k.Exclamation

-- ('?' | '!')? (':' Type)?, and what stands behind them
abbrev pub field_type_in : Rhs Row → Rhs Row
field_type_in f = opt (greedy (has_kind is_field_mark)) (tok as_kind is_field_mark done) (annotation_in f)

-- Key (TS '?' | TS '!')? (TS ':' Type)? ('=' Assign)? END
unfoldable pub field_in : Lang → Context → Rhs Row
field_in l c = row (KeyRow true c) (typed_in l field_type_in (value_in c))

-- Member, with its modifiers: ('get' | 'set' | 'async'? '*'?) Key (TS '?')? Sig (Block | TS END)
--         | 'accessor'? Key (TS '?' | TS '!')? (TS ':' Type)? ('=' Assign)? END
unfoldable pub modified_member : Lang → Context → Production Row NodeKind
modified_member l c =
    pick (behind l (opens_accessor true))
    (make (label_by l AccessorMember TypedAccessorMember) (marked_in l accessor_word_in (class_method_in l c c)))
    (pick (behind l (opens_async true))
    (make (label_by l AsyncMember TypedAsyncMember) (marked_in l async_word_in (class_method_in l c (async_in c))))
    (pick (behind l opens_star)
    (make (label_by l GeneratorMember TypedGeneratorMember) (marked_in l star_word_in (class_method_in l c c)))
    (pick (behind l opens_field_accessor)
    (make (label_by l AccessorField TypedAccessorField) (marked_in l field_word_in (field_in l c)))
    (pick (behind l (opens_any_method l))
    (make (label_by l MethodMember TypedMethodMember) (head_in l (class_method_in l c c)))
    (make (label_by l FieldMember TypedFieldMember) (head_in l (field_in l c)))))))

-- TS Mod* '[' Name ':' Type ']' (':' Type)? END
unfoldable pub index_member : Production Row NodeKind
index_member =
    make IndexMember (modifiers_in opens_modifier (punct k.OpenBracket (tok as_name is_name (punct k.Colon
    (type_then (punct k.CloseBracket (annotation_in ended)))))))

unfoldable pub any_member : Lang → Context → Production Row NodeKind
any_member l c = typed_before l (pick (behind_all shows_index) index_member) (modified_member l c)

-- Member: ';' | 'static' Block | and those with modifiers
unfoldable pub member : Lang → Context → Production Row NodeKind
member l c =
    choose (is k.Semicolon) (make EmptyMember (punct k.Semicolon done))
    (pick opens_static_block (make StaticBlock (punct k.StaticWord (row (BlockRow c) done)))
    (any_member l c))
