-- What a language has: tables and readers ask for it, and never which language it is.
use Rattle.std.specs.Prelude.{Bool, true, false}
use Rattle.grammar_theory.specs.declared.error.Lang.{Lang}
use Rattle.grammar_theory.specs.declared.error.Lang.TheVariants as lang

-- the types and declarations of TypeScript
abbrev pub typed : Lang → Bool
typed lang.Es = false
typed lang.Typescript = true
typed lang.Jsx = false
typed lang.Tsx = true
typed lang.Wide = true

-- elements of JSX
abbrev pub elements : Lang → Bool
elements lang.Es = false
elements lang.Typescript = false
elements lang.Jsx = true
elements lang.Tsx = true
elements lang.Wide = false

-- assertions of a type before what is asserted, such as `<a>b`
abbrev pub asserts : Lang → Bool
asserts lang.Es = false
asserts lang.Typescript = false
asserts lang.Jsx = false
asserts lang.Tsx = false
asserts lang.Wide = true

-- decorators of classes, members and parameters
abbrev pub decorates : Lang → Bool
decorates lang.Es = false
decorates lang.Typescript = false
decorates lang.Jsx = true
decorates lang.Tsx = true
decorates lang.Wide = true
