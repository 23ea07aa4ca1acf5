-- The declarations of a graph's modules, line by line (this project's profile).
use Rattle.std.specs.Prelude.{◌≡◌, ℕ, true, List, [], ◌∷◌, ◌++◌, codes, decimal}
use Rattle.std.specs.List.{flat_map}
use Rattle.url.specs.Parts.{Parts}
use Rattle.dts_rules.specs.declared.found.Found.{Found}
use Rattle.dts_rules.specs.declared.found.FoundKind.{FoundKind}
use Rattle.dts_rules.specs.declared.found.FoundKind.TheVariants as kind
use Rattle.graph_entry.specs.declared.entry.Entry.{Entry}
use Rattle.graph_entry.specs.declared.entry.Entry.TheVariants as entry
use Rattle.graph_entry.specs.declared.entry.JsModule.{JsModule}
use Rattle.graph_entry.specs.declared.entry.Module.{Module}
use Rattle.graph_entry.specs.declared.entry.Module.TheVariants.{Js}
use Rattle.graph_entry.specs.Specifier.{text_of}
use Rattle.json.specs.Print.{quoted}
use Rattle.graph_report.specs.Report.{line_end, blank}
use Rattle.source_declarations.specs.declared.read.SourceDeclarations.{SourceDeclarations}
use Rattle.source_declarations.specs.Answers.{HasDeclarations, IsNoProgram}

abbrev pub kind_word : FoundKind → List ℕ
kind_word kind.UnableToInferType = codes "UnableToInferType"
kind_word kind.UnableToInferTypeFallbackAny = codes "UnableToInferTypeFallbackAny"
kind_word kind.UnableToInferTypeFromProp = codes "UnableToInferTypeFromProp"
kind_word kind.UnableToInferTypeFromSpread = codes "UnableToInferTypeFromSpread"
kind_word kind.UnsupportedUsing = codes "UnsupportedUsing"

-- the line of what couldn't be determined
unfoldable pub found_line : Found → List ℕ
found_line f =
    codes "  " ++ kind_word f.kind ++ blank ++ decimal f.range.start ++ codes "-" ++ decimal f.range.end ++ line_end

-- the line of the printed text of declarations
unfoldable pub text_line : Parts → List ℕ → List ℕ
text_line url text = codes "declarations " ++ text_of url ++ blank ++ quoted text ++ line_end

-- the lines of declarations
unfoldable pub declared_lines : Parts → SourceDeclarations → List ℕ
declared_lines url it = text_line url it.text ++ flat_map found_line it.found

-- the line of a source that is a program by further forms alone
unfoldable pub undeclared_line : Parts → List ℕ
undeclared_line url = codes "declarations " ++ text_of url ++ codes " -" ++ line_end

-- the text is that of the source of a module
pub data IsDeclaredText (url : Parts) (it : JsModule) (text : List ℕ) : Type 0 where
  program : (declarations : SourceDeclarations) → HasDeclarations it.media_type it.text true declarations
      → text ≡ declared_lines url declarations → IsDeclaredText url it text
  no_program : IsNoProgram it.media_type it.text → text ≡ undeclared_line url → IsDeclaredText url it text

-- of an entry: of a module of JavaScript or TypeScript its lines, else none
abbrev pub IsModuleText : Parts → Module → List ℕ → Type 0
IsModuleText url (Js it) text = IsDeclaredText url it text
IsModuleText url _ text = text ≡ []

abbrev pub IsEntryText : Parts → Entry → List ℕ → Type 0
IsEntryText url (entry.Module it) text = IsModuleText url it text
IsEntryText url _ text = text ≡ []

-- the text is that of these entries, one after the other
pub data IsDeclarationsText : List (Parts × Entry) → List ℕ → Type 0 where
  none : IsDeclarationsText [] []
  more : (entries : List (Parts × Entry)) (text : List ℕ) (e : Parts × Entry) (lines : List ℕ)
      → IsDeclarationsText entries text → IsEntryText e.0 e.1 lines → IsDeclarationsText (entries ++ e ∷ []) (text ++ lines)
