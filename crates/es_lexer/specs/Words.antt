-- The words with a kind of their own: keywords (ECMA-262, "Keywords and Reserved Words", and the literals of "Primary
-- Expression") and contextual words, which the grammars of JavaScript and TypeScript name. Every other word is a Name.
use Rattle.std.specs.Prelude.{ℕ, List, [], ◌∷◌, length, codes, bytes_eq, ◌==◌, ◌&&◌, Bool, true, false, if◌then◌else◌}
use Rattle.es_token.specs.declared.token.TokenKind.{TokenKind}
use Rattle.es_token.specs.declared.token.TokenKind.TheVariants as k

-- words and their kinds
abbrev pub WordTable : Type 0
WordTable = List (List ℕ × TokenKind)

-- the words of two letters
unfoldable pub words_of_two : WordTable
words_of_two =
    (codes "as", k.AsWord) ∷ (codes "do", k.DoWord) ∷ (codes "if", k.IfWord) ∷ (codes "in", k.InWord) ∷
    (codes "is", k.IsWord) ∷ (codes "of", k.OfWord) ∷ []

-- the words of three letters
unfoldable pub words_of_three : WordTable
words_of_three =
    (codes "any", k.AnyWord) ∷ (codes "for", k.ForWord) ∷ (codes "get", k.GetWord) ∷ (codes "let", k.LetWord) ∷
    (codes "new", k.NewWord) ∷ (codes "out", k.OutWord) ∷ (codes "set", k.SetWord) ∷ (codes "try", k.TryWord) ∷
    (codes "var", k.VarWord) ∷ []

-- the words of four letters
unfoldable pub words_of_four : WordTable
words_of_four =
    (codes "case", k.CaseWord) ∷ (codes "else", k.ElseWord) ∷ (codes "enum", k.EnumWord) ∷
    (codes "from", k.FromWord) ∷ (codes "meta", k.MetaWord) ∷ (codes "null", k.NullWord) ∷
    (codes "this", k.ThisWord) ∷ (codes "true", k.TrueWord) ∷ (codes "type", k.TypeWord) ∷
    (codes "void", k.VoidWord) ∷ (codes "with", k.WithWord) ∷ []

-- the words of five letters
unfoldable pub words_of_five : WordTable
words_of_five =
    (codes "async", k.AsyncWord) ∷ (codes "await", k.AwaitWord) ∷ (codes "break", k.BreakWord) ∷
    (codes "catch", k.CatchWord) ∷ (codes "class", k.ClassWord) ∷ (codes "const", k.ConstWord) ∷
    (codes "defer", k.DeferWord) ∷ (codes "false", k.FalseWord) ∷ (codes "infer", k.InferWord) ∷
    (codes "keyof", k.KeyofWord) ∷ (codes "never", k.NeverWord) ∷ (codes "super", k.SuperWord) ∷
    (codes "throw", k.ThrowWord) ∷ (codes "using", k.UsingWord) ∷ (codes "while", k.WhileWord) ∷
    (codes "yield", k.YieldWord) ∷ []

-- the words of six letters
unfoldable pub words_of_six : WordTable
words_of_six =
    (codes "bigint", k.BigintWord) ∷ (codes "delete", k.DeleteWord) ∷ (codes "export", k.ExportWord) ∷
    (codes "global", k.GlobalWord) ∷ (codes "import", k.ImportWord) ∷ (codes "module", k.ModuleWord) ∷
    (codes "number", k.NumberWord) ∷ (codes "object", k.ObjectWord) ∷ (codes "public", k.PublicWord) ∷
    (codes "return", k.ReturnWord) ∷ (codes "source", k.SourceWord) ∷ (codes "static", k.StaticWord) ∷
    (codes "string", k.StringWord) ∷ (codes "switch", k.SwitchWord) ∷ (codes "symbol", k.SymbolWord) ∷
    (codes "target", k.TargetWord) ∷ (codes "typeof", k.TypeofWord) ∷ (codes "unique", k.UniqueWord) ∷ []

-- the words of seven letters
unfoldable pub words_of_seven : WordTable
words_of_seven =
    (codes "asserts", k.AssertsWord) ∷ (codes "boolean", k.BooleanWord) ∷ (codes "declare", k.DeclareWord) ∷
    (codes "default", k.DefaultWord) ∷ (codes "extends", k.ExtendsWord) ∷ (codes "finally", k.FinallyWord) ∷
    (codes "private", k.PrivateWord) ∷ (codes "require", k.RequireWord) ∷ (codes "unknown", k.UnknownWord) ∷ []

-- the words of eight letters
unfoldable pub words_of_eight : WordTable
words_of_eight =
    (codes "abstract", k.AbstractWord) ∷ (codes "accessor", k.AccessorWord) ∷ (codes "continue", k.ContinueWord) ∷
    (codes "debugger", k.DebuggerWord) ∷ (codes "function", k.FunctionWord) ∷ (codes "override", k.OverrideWord) ∷
    (codes "readonly", k.ReadonlyWord) ∷ []

-- the words of nine letters
unfoldable pub words_of_nine : WordTable
words_of_nine =
    (codes "interface", k.InterfaceWord) ∷ (codes "namespace", k.NamespaceWord) ∷
    (codes "protected", k.ProtectedWord) ∷ (codes "satisfies", k.SatisfiesWord) ∷
    (codes "undefined", k.UndefinedWord) ∷ []

-- the words of ten letters
unfoldable pub words_of_ten : WordTable
words_of_ten =
    (codes "implements", k.ImplementsWord) ∷ (codes "instanceof", k.InstanceofWord) ∷ []

-- the words of eleven letters
unfoldable pub words_of_eleven : WordTable
words_of_eleven =
    (codes "constructor", k.ConstructorWord) ∷ []

-- the words of so many letters
unfoldable pub words_of : ℕ → WordTable
words_of n =
    if n == 2 then words_of_two else (
    if n == 3 then words_of_three else (
    if n == 4 then words_of_four else (
    if n == 5 then words_of_five else (
    if n == 6 then words_of_six else (
    if n == 7 then words_of_seven else (
    if n == 8 then words_of_eight else (
    if n == 9 then words_of_nine else (
    if n == 10 then words_of_ten else (
    if n == 11 then words_of_eleven else (
    []))))))))))

-- the kind that a table gives a word
unfoldable pub kind_in : WordTable → List ℕ → TokenKind
kind_in [] word = k.Name
kind_in (entry ∷ table) word = if bytes_eq word entry.0 then entry.1 else kind_in table word

-- the kind of a word
unfoldable pub word_kind : List ℕ → TokenKind
word_kind word = kind_in (words_of (length word)) word

-- a keyword, which is a name right after `.`
unfoldable pub is_keyword : TokenKind → Bool
is_keyword k.AwaitWord = true
is_keyword k.BreakWord = true
is_keyword k.CaseWord = true
is_keyword k.CatchWord = true
is_keyword k.ClassWord = true
is_keyword k.ConstWord = true
is_keyword k.ContinueWord = true
is_keyword k.DebuggerWord = true
is_keyword k.DefaultWord = true
is_keyword k.DeleteWord = true
is_keyword k.DoWord = true
is_keyword k.ElseWord = true
is_keyword k.EnumWord = true
is_keyword k.ExportWord = true
is_keyword k.ExtendsWord = true
is_keyword k.FalseWord = true
is_keyword k.FinallyWord = true
is_keyword k.ForWord = true
is_keyword k.FunctionWord = true
is_keyword k.IfWord = true
is_keyword k.ImportWord = true
is_keyword k.InWord = true
is_keyword k.InstanceofWord = true
is_keyword k.LetWord = true
is_keyword k.NewWord = true
is_keyword k.NullWord = true
is_keyword k.ReturnWord = true
is_keyword k.SuperWord = true
is_keyword k.SwitchWord = true
is_keyword k.ThisWord = true
is_keyword k.ThrowWord = true
is_keyword k.TrueWord = true
is_keyword k.TryWord = true
is_keyword k.TypeofWord = true
is_keyword k.VarWord = true
is_keyword k.VoidWord = true
is_keyword k.WhileWord = true
is_keyword k.WithWord = true
is_keyword k.YieldWord = true
is_keyword kind = false

-- the kind of a word, right after `.` or not
unfoldable pub kind_at : Bool → List ℕ → TokenKind
kind_at member word = let kind = word_kind word in if member && is_keyword kind then k.Name else kind
