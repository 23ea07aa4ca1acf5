-- A member with its modifiers, by the predicates that tell behind the modifiers which it is.
use Rattle.grammar_theory.specs.declared.error.Lang.{Lang}
use Rattle.grammar_theory.specs.Productions.{Predicate, Production, make, pick}
use Rattle.es_grammar.specs.declared.rows.Context.{Context}
use Rattle.es_grammar.specs.declared.rows.Row.{Row}
use Rattle.es_grammar.specs.declared.rows.NodeKind.{NodeKind}
use Rattle.es_grammar.specs.declared.rows.NodeKind.TheVariants.{AccessorField, AccessorMember, AsyncMember, FieldMember, GeneratorMember, MethodMember, TypedAccessorField, TypedAccessorMember, TypedAsyncMember, TypedFieldMember, TypedGeneratorMember, TypedMethodMember}
use Rattle.es_grammar.specs.Rows.{async_in}
use Rattle.es_grammar.specs.Embedding.{label_by}
use Rattle.es_grammar.specs.Classes.{head_in, marked_in, accessor_word_in, async_word_in, star_word_in, field_word_in, class_method_in, field_in}

-- the predicates of an accessor, an async method, a generator, a field with `accessor`, a method
abbrev pub member_behind : Lang → Context → Predicate → Predicate → Predicate → Predicate → Predicate → Production Row NodeKind
member_behind l c accessor asynced star field method =
    pick accessor
    (make (label_by l AccessorMember TypedAccessorMember) (marked_in l accessor_word_in (class_method_in l c c)))
    (pick asynced
    (make (label_by l AsyncMember TypedAsyncMember) (marked_in l async_word_in (class_method_in l c (async_in c))))
    (pick star
    (make (label_by l GeneratorMember TypedGeneratorMember) (marked_in l star_word_in (class_method_in l c c)))
    (pick field (make (label_by l AccessorField TypedAccessorField) (marked_in l field_word_in (field_in l c)))
    (pick method (make (label_by l MethodMember TypedMethodMember) (head_in l (class_method_in l c c)))
    (make (label_by l FieldMember TypedFieldMember) (head_in l (field_in l c)))))))
