-- Keys that are no program: nothing is read of them. A line end is written ⏎.
use Rattle.std.specs.Prelude.{[], ◌∷◌}
use Rattle.std.proofs.Common.{◌≡◌, refl}
use Rattle.es_token.specs.declared.token.TokenKind.TheVariants as k
use Rattle.grammar_theory.specs.declared.error.Lang.TheVariants as lang
use Rattle.grammar_theory.specs.declared.error.Mode.TheVariants as mode
use Rattle.grammar_theory.specs.Reader.{nothing}
use Rattle.es_grammar.specs.types.TypeReader.{one, paired, line}
use Rattle.es_grammar.specs.ProgramReader.{read_program}
use Rattle.es_grammar.proofs.OnKeys.{programs_on_keys}

-- refused
refused :
    -- a b
    (read_program lang.Es mode.Module (one k.Name ∷ one k.Name ∷ []) ≡ nothing)
    -- a +
    × (read_program lang.Es mode.Module (one k.Name ∷ one k.Plus ∷ []) ≡ nothing)
    -- a =>
    × (read_program lang.Es mode.Module (one k.Name ∷ one k.Arrow ∷ []) ≡ nothing)
    -- a || b ?? c
    × (read_program lang.Es mode.Module (one k.Name ∷ one k.BarBar ∷ one k.Name ∷ one k.QuestionQuestion ∷ one k.Name
    ∷ []) ≡ nothing)
    -- - a ** b
    × (read_program lang.Es mode.Module (one k.Minus ∷ one k.Name ∷ one k.StarStar ∷ one k.Name ∷ []) ≡ nothing)
    -- a⏎ => b
    × (read_program lang.Es mode.Module (one k.Name ∷ line k.Arrow ∷ one k.Name ∷ []) ≡ nothing)
    -- if ( a )
    × (read_program lang.Es mode.Module (one k.IfWord ∷ paired k.OpenParen 3 ∷ one k.Name ∷ paired k.CloseParen 1 ∷
    []) ≡ nothing)
    -- for ( a of b , c ) d
    × (read_program lang.Es mode.Module (one k.ForWord ∷ paired k.OpenParen 7 ∷ one k.Name ∷ one k.OfWord ∷ one k.Name
    ∷ one k.Comma ∷ one k.Name ∷ paired k.CloseParen 1 ∷ one k.Name ∷ []) ≡ nothing)
    -- for ( var a b ; ; ) c
    × (read_program lang.Es mode.Module (one k.ForWord ∷ paired k.OpenParen 7 ∷ one k.VarWord ∷ one k.Name ∷ one
    k.Name ∷ one k.Semicolon ∷ one k.Semicolon ∷ paired k.CloseParen 1 ∷ one k.Name ∷ []) ≡ nothing)
    -- throw⏎ a
    × (read_program lang.Es mode.Module (one k.ThrowWord ∷ line k.Name ∷ []) ≡ nothing)
    -- for ( var a = b in c ; ; ) d
    × (read_program lang.Es mode.Module (one k.ForWord ∷ paired k.OpenParen 10 ∷ one k.VarWord ∷ one k.Name ∷ one
    k.Equal ∷ one k.Name ∷ one k.InWord ∷ one k.Name ∷ one k.Semicolon ∷ one k.Semicolon ∷ paired k.CloseParen 1 ∷
    one k.Name ∷ []) ≡ nothing)
    -- try { }
    × (read_program lang.Es mode.Module (one k.TryWord ∷ paired k.OpenBrace 2 ∷ paired k.CloseBrace 1 ∷ []) ≡ nothing)
    -- with ( a ) b
    × (read_program lang.Es mode.Module (one k.WithWord ∷ paired k.OpenParen 3 ∷ one k.Name ∷ paired k.CloseParen 1 ∷
    one k.Name ∷ []) ≡ nothing)
    -- function ( ) { }
    × (read_program lang.Es mode.Module (one k.FunctionWord ∷ paired k.OpenParen 2 ∷ paired k.CloseParen 1 ∷ paired
    k.OpenBrace 4 ∷ paired k.CloseBrace 3 ∷ []) ≡ nothing)
    -- class { }
    × (read_program lang.Es mode.Module (one k.ClassWord ∷ paired k.OpenBrace 2 ∷ paired k.CloseBrace 1 ∷ []) ≡
    nothing)
    -- class a { static static b }
    × (read_program lang.Es mode.Module (one k.ClassWord ∷ one k.Name ∷ paired k.OpenBrace 6 ∷ one k.StaticWord ∷ one
    k.StaticWord ∷ one k.Name ∷ paired k.CloseBrace 2 ∷ []) ≡ nothing)
    -- import a
    × (read_program lang.Es mode.Module (one k.ImportWord ∷ one k.Name ∷ []) ≡ nothing)
    -- export a
    × (read_program lang.Es mode.Module (one k.ExportWord ∷ one k.Name ∷ []) ≡ nothing)
    -- import . meta (a script)
    × (read_program lang.Es mode.Script (one k.ImportWord ∷ one k.Dot ∷ one k.MetaWord ∷ []) ≡ nothing)
    -- await a (a script)
    × (read_program lang.Es mode.Script (one k.AwaitWord ∷ one k.Name ∷ []) ≡ nothing)
    -- { a : b , c : d }
    × (read_program lang.Es mode.Module (paired k.OpenBrace 8 ∷ one k.Name ∷ one k.Colon ∷ one k.Name ∷ one k.Comma ∷
    one k.Name ∷ one k.Colon ∷ one k.Name ∷ paired k.CloseBrace 0 ∷ []) ≡ nothing)
    -- super
    × (read_program lang.Es mode.Module (one k.SuperWord ∷ []) ≡ nothing)
    -- a . + b
    × (read_program lang.Es mode.Module (one k.Name ∷ one k.Dot ∷ one k.Plus ∷ one k.Name ∷ []) ≡ nothing)
    -- import source { a } from "b"
    × (read_program lang.Es mode.Module (one k.ImportWord ∷ one k.SourceWord ∷ paired k.OpenBrace 4 ∷ one k.Name ∷
    paired k.CloseBrace 2 ∷ one k.FromWord ∷ one k.Str ∷ []) ≡ nothing)
    -- import source a , { b } from "c"
    × (read_program lang.Es mode.Module (one k.ImportWord ∷ one k.SourceWord ∷ one k.Name ∷ one k.Comma ∷ paired
    k.OpenBrace 6 ∷ one k.Name ∷ paired k.CloseBrace 4 ∷ one k.FromWord ∷ one k.Str ∷ []) ≡ nothing)
    -- import defer { a } from "b"
    × (read_program lang.Es mode.Module (one k.ImportWord ∷ one k.DeferWord ∷ paired k.OpenBrace 4 ∷ one k.Name ∷
    paired k.CloseBrace 2 ∷ one k.FromWord ∷ one k.Str ∷ []) ≡ nothing)
    -- import . source ( )
    × (read_program lang.Es mode.Module (one k.ImportWord ∷ one k.Dot ∷ one k.SourceWord ∷ paired k.OpenParen 4 ∷
    paired k.CloseParen 3 ∷ []) ≡ nothing)
unfolding programs_on_keys
refused = (
  refl,
  refl,
  refl,
  refl,
  refl,
  refl,
  refl,
  refl,
  refl,
  refl,
  refl,
  refl,
  refl,
  refl,
  refl,
  refl,
  refl,
  refl,
  refl,
  refl,
  refl,
  refl,
  refl,
  refl,
  refl,
  refl,
  refl,
)
