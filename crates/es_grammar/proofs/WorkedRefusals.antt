-- What is no program of TypeScript: the reader of the table answers so, by computing it. A line end is written ⏎.
use Rattle.std.specs.Prelude.{[], ◌∷◌}
use Rattle.std.proofs.Common.{◌≡◌, refl}
use Rattle.es_token.specs.declared.token.TokenKind.TheVariants as k
use Rattle.grammar_theory.specs.declared.error.Lang.TheVariants as lang
use Rattle.grammar_theory.specs.declared.error.Mode.TheVariants as mode
use Rattle.grammar_theory.specs.Reader.{nothing}
use Rattle.es_grammar.specs.types.TypeReader.{joined, line, one, paired}
use Rattle.es_grammar.specs.ProgramReader.{read_program}
use Rattle.es_grammar.proofs.OnKeys.{programs_on_keys}

-- expressions
expressions_refused :
    -- f<a>
    (read_program lang.Typescript mode.Module (one k.Name ∷ one k.Less ∷ one k.Name ∷ joined k.Greater ∷ []) ≡
    nothing)
    -- a++ < b > (c)
    × (read_program lang.Typescript mode.Module (one k.Name ∷ one k.PlusPlus ∷ one k.Less ∷ one k.Name ∷ one k.Greater
    ∷ paired k.OpenParen 7 ∷ one k.Name ∷ paired k.CloseParen 5 ∷ []) ≡ nothing)
    -- a satisfies const
    × (read_program lang.Typescript mode.Module (one k.Name ∷ one k.SatisfiesWord ∷ one k.ConstWord ∷ []) ≡ nothing)
    -- -a ** b
    × (read_program lang.Typescript mode.Module (one k.Minus ∷ one k.Name ∷ one k.StarStar ∷ one k.Name ∷ []) ≡ nothing)
    -- a as b >> c as d
    × (read_program lang.Typescript mode.Module (one k.Name ∷ one k.AsWord ∷ one k.Name ∷ one k.Greater ∷ joined
    k.Greater ∷ one k.Name ∷ one k.AsWord ∷ one k.Name ∷ []) ≡ nothing)
    -- a⏎=> b
    × (read_program lang.Typescript mode.Module (one k.Name ∷ line k.Arrow ∷ one k.Name ∷ []) ≡ nothing)
    -- (a: b)
    × (read_program lang.Typescript mode.Module (paired k.OpenParen 4 ∷ one k.Name ∷ one k.Colon ∷ one k.Name ∷ paired
    k.CloseParen 0 ∷ []) ≡ nothing)
    -- (a): b
    × (read_program lang.Typescript mode.Module (paired k.OpenParen 2 ∷ one k.Name ∷ paired k.CloseParen 0 ∷ one
    k.Colon ∷ one k.Name ∷ []) ≡ nothing)
    -- async (a): b
    × (read_program lang.Typescript mode.Module (one k.AsyncWord ∷ paired k.OpenParen 3 ∷ one k.Name ∷ paired
    k.CloseParen 1 ∷ one k.Colon ∷ one k.Name ∷ []) ≡ nothing)
    -- x = a as
    × (read_program lang.Typescript mode.Module (one k.Name ∷ one k.Equal ∷ one k.Name ∷ one k.AsWord ∷ []) ≡ nothing)
    -- new A<b>.c
    × (read_program lang.Typescript mode.Module (one k.NewWord ∷ one k.Name ∷ one k.Less ∷ one k.Name ∷ joined
    k.Greater ∷ one k.Dot ∷ one k.Name ∷ []) ≡ nothing)
    -- new import("a")
    × (read_program lang.Typescript mode.Module (one k.NewWord ∷ one k.ImportWord ∷ paired k.OpenParen 4 ∷ one k.Str ∷
    paired k.CloseParen 2 ∷ []) ≡ nothing)
unfolding programs_on_keys
expressions_refused =
    (refl, refl, refl, refl, refl, refl, refl, refl, refl, refl, refl, refl)

-- declarations
declarations_refused :
    -- let a !b
    (read_program lang.Typescript mode.Module (one k.LetWord ∷ one k.Name ∷ one k.Exclamation ∷ one k.Name ∷ []) ≡
    nothing)
    -- class A { static static a }
    × (read_program lang.Typescript mode.Module (one k.ClassWord ∷ one k.Name ∷ paired k.OpenBrace 6 ∷ one
    k.StaticWord ∷ one k.StaticWord ∷ one k.Name ∷ paired k.CloseBrace 2 ∷ []) ≡ nothing)
    -- class A { public public a }
    × (read_program lang.Typescript mode.Module (one k.ClassWord ∷ one k.Name ∷ paired k.OpenBrace 6 ∷ one
    k.PublicWord ∷ one k.PublicWord ∷ one k.Name ∷ paired k.CloseBrace 2 ∷ []) ≡ nothing)
    -- class A { public static { } }
    × (read_program lang.Typescript mode.Module (one k.ClassWord ∷ one k.Name ∷ paired k.OpenBrace 7 ∷ one
    k.PublicWord ∷ one k.StaticWord ∷ paired k.OpenBrace 6 ∷ paired k.CloseBrace 5 ∷ paired k.CloseBrace 2 ∷ []) ≡
    nothing)
    -- interface A
    × (read_program lang.Typescript mode.Module (one k.InterfaceWord ∷ one k.Name ∷ []) ≡ nothing)
    -- interface⏎A { }
    × (read_program lang.Typescript mode.Module (one k.InterfaceWord ∷ line k.Name ∷ paired k.OpenBrace 3 ∷ paired
    k.CloseBrace 2 ∷ []) ≡ nothing)
    -- type A =
    × (read_program lang.Typescript mode.Module (one k.TypeWord ∷ one k.Name ∷ one k.Equal ∷ []) ≡ nothing)
    -- enum { }
    × (read_program lang.Typescript mode.Module (one k.EnumWord ∷ paired k.OpenBrace 2 ∷ paired k.CloseBrace 1 ∷ []) ≡
    nothing)
    -- namespace a.b
    × (read_program lang.Typescript mode.Module (one k.NamespaceWord ∷ one k.Name ∷ one k.Dot ∷ one k.Name ∷ []) ≡
    nothing)
    -- module "a" b
    × (read_program lang.Typescript mode.Module (one k.ModuleWord ∷ one k.Str ∷ one k.Name ∷ []) ≡ nothing)
    -- declare a
    × (read_program lang.Typescript mode.Module (one k.DeclareWord ∷ one k.Name ∷ []) ≡ nothing)
    -- abstract class { }
    × (read_program lang.Typescript mode.Module (one k.AbstractWord ∷ one k.ClassWord ∷ paired k.OpenBrace 3 ∷ paired
    k.CloseBrace 2 ∷ []) ≡ nothing)
    -- function f(public a) { }
    × (read_program lang.Typescript mode.Module (one k.FunctionWord ∷ one k.Name ∷ paired k.OpenParen 5 ∷ one
    k.PublicWord ∷ one k.Name ∷ paired k.CloseParen 2 ∷ paired k.OpenBrace 7 ∷ paired k.CloseBrace 6 ∷ []) ≡ nothing)
    -- function f(this?.a) { }
    × (read_program lang.Typescript mode.Module (one k.FunctionWord ∷ one k.Name ∷ paired k.OpenParen 6 ∷ one
    k.ThisWord ∷ one k.QuestionDot ∷ one k.Name ∷ paired k.CloseParen 2 ∷ paired k.OpenBrace 8 ∷ paired k.CloseBrace 7
    ∷ []) ≡ nothing)
    -- class A { a! ( ) { } }
    × (read_program lang.Typescript mode.Module (one k.ClassWord ∷ one k.Name ∷ paired k.OpenBrace 9 ∷ one k.Name ∷
    one k.Exclamation ∷ paired k.OpenParen 6 ∷ paired k.CloseParen 5 ∷ paired k.OpenBrace 8 ∷ paired k.CloseBrace 7 ∷
    paired k.CloseBrace 2 ∷ []) ≡ nothing)
    -- class A { a?: b c }
    × (read_program lang.Typescript mode.Module (one k.ClassWord ∷ one k.Name ∷ paired k.OpenBrace 8 ∷ one k.Name ∷
    one k.Question ∷ one k.Colon ∷ one k.Name ∷ one k.Name ∷ paired k.CloseBrace 2 ∷ []) ≡ nothing)
    -- export default interface { }
    × (read_program lang.Typescript mode.Module (one k.ExportWord ∷ one k.DefaultWord ∷ one k.InterfaceWord ∷ paired
    k.OpenBrace 4 ∷ paired k.CloseBrace 3 ∷ []) ≡ nothing)
    -- export declare a
    × (read_program lang.Typescript mode.Module (one k.ExportWord ∷ one k.DeclareWord ∷ one k.Name ∷ []) ≡ nothing)
    -- x = { a?: b }
    × (read_program lang.Typescript mode.Module (one k.Name ∷ one k.Equal ∷ paired k.OpenBrace 7 ∷ one k.Name ∷ one
    k.Question ∷ one k.Colon ∷ one k.Name ∷ paired k.CloseBrace 2 ∷ []) ≡ nothing)
    -- x = { a(); }
    × (read_program lang.Typescript mode.Module (one k.Name ∷ one k.Equal ∷ paired k.OpenBrace 7 ∷ one k.Name ∷ paired
    k.OpenParen 5 ∷ paired k.CloseParen 4 ∷ one k.Semicolon ∷ paired k.CloseBrace 2 ∷ []) ≡ nothing)
    -- export = a (a script)
    × (read_program lang.Typescript mode.Script (one k.ExportWord ∷ one k.Equal ∷ one k.Name ∷ []) ≡ nothing)
    -- await a as b (a script)
    × (read_program lang.Typescript mode.Script (one k.AwaitWord ∷ one k.Name ∷ one k.AsWord ∷ one k.Name ∷ []) ≡
    nothing)
unfolding programs_on_keys
declarations_refused = (
  refl,
  refl,
  refl,
  refl,
  refl,
  refl,
  refl,
  refl,
  refl,
  refl,
  refl,
  refl,
  refl,
  refl,
  refl,
  refl,
  refl,
  refl,
  refl,
  refl,
  refl,
  refl,
)
