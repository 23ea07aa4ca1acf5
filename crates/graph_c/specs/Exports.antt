-- What joravelsu_exports leaves in the caller's buffers.
use Rattle.std.specs.Prelude.{◌≡◌, ℕ, ◌+◌, Bool, true, false, ◌&&◌, nat_le, List, [], ◌∷◌, ◌++◌, length, Option, Some, MatchOption}
use Rattle.std.specs.List.{flat_map}
use Rattle.es_token.specs.declared.token.Token.{Token}
use Rattle.es_token.specs.declared.token.Comment.{Comment}
use Rattle.es_ast.specs.declared.ast.Program.{Program}
use Rattle.es_exports.specs.declared.analysis.ModuleExportsAndReExports.{ModuleExportsAndReExports}
use Rattle.es_exports.specs.Exports.{exports_of, reexports_of}
use Rattle.cjs_facts.specs.Exports.{AreExports}
use Rattle.source_reading.specs.Tree.{IsTree}
use Rattle.media_type.specs.declared.media_type.MediaType.{MediaType}
use Rattle.media_type.specs.declared.media_type.ModuleKind.{ModuleKind}
use Rattle.media_type.specs.declared.media_type.ModuleKind.TheVariants.{Source}
use Rattle.media_type.specs.MediaType.{kind_of}
use Rattle.graph_c.specs.declared.exports.SourceName.{SourceName}
use Rattle.graph_c.specs.declared.exports.ExportsAnswer.{ExportsAnswer}
use Rattle.graph_c.specs.declared.finding.Finding.{Finding}
use Rattle.graph_c.specs.declared.finding.Finding.TheVariants as finding
use Rattle.graph_c.specs.Finding.{OfBytes, OfText}
use Rattle.graph_c.specs.MediaTypes.{media_type_at}
use Rattle.graph_c.specs.Told.{fault_of, place_of, status_of, after}

-- ---- what there is to tell

-- what a program exports as a module of CommonJS, or at run time as a module of ECMAScript
abbrev pub ExportsOf : Bool → Program → ModuleExportsAndReExports → Type 0
ExportsOf true program it = AreExports program it.exports it.reexports
ExportsOf false program it = (it.exports ≡ exports_of program) × (it.reexports ≡ reexports_of program)

abbrev pub OfProgram : Bool → Program → Finding → Type 0
OfProgram common_js program found =
    (it : ModuleExportsAndReExports) × ExportsOf common_js program it × (found ≡ finding.Exports it)

-- what the tree of tokens exports
pub data OfExports (common_js : Bool) (media : MediaType) (text : List ℕ) (tokens : List Token) (comments : List Comment)
    (found : Finding) : Type 0 where
  of_tree : (program : Program) → IsTree media text tokens program → OfProgram common_js program found
      → OfExports common_js media text tokens comments found
  -- they have no tree; no place is promised
  of_none : ((program : Program) → ¬ IsTree media text tokens program) → (place : ℕ) → found ≡ finding.Syntax place
      → OfExports common_js media text tokens comments found

-- what bytes of this media type export, by how its modules are read
abbrev pub ExportsOfKind : Bool → Option ModuleKind → MediaType → List ℕ → Finding → Type 0
ExportsOfKind common_js (Some Source) media bytes found = OfBytes (OfText (OfExports common_js media)) bytes found
ExportsOfKind common_js _ media bytes found = found ≡ finding.NotRead

-- what bytes export whose media type has this number
abbrev pub HasExports : Bool → ℕ → List ℕ → Finding → Type 0
HasExports common_js number bytes found =
    MatchOption (media_type_at number) (found ≡ finding.NoMediaType)
    (λ media. ExportsOfKind common_js (kind_of media) media bytes found)

-- ---- what is told

-- the names that were found, and the modules whose names are exported again
abbrev pub exports_in : Finding → List (List ℕ)
exports_in (finding.Exports it) = it.exports
exports_in _ = []

abbrev pub reexports_in : Finding → List (List ℕ)
reexports_in (finding.Exports it) = it.reexports
reexports_in _ = []

-- both, the names first
abbrev pub names_in : Finding → List (List ℕ)
names_in found = exports_in found ++ reexports_in found

-- names that stand one behind the other from there on
abbrev pub ranges_from : ℕ → List (List ℕ) → List SourceName
ranges_from at [] = []
ranges_from at (name ∷ names) = record { start = at; end = at + length name } ∷ ranges_from (at + length name) names

-- the names, one behind the other
abbrev pub joined : List (List ℕ) → List ℕ
joined names = flat_map (λ name. name) names

-- both buffers are large enough for the names
abbrev pub names_fit : List (List ℕ) → List SourceName → List ℕ → Bool
names_fit found names values = nat_le (length found) (length names) && nat_le (length (joined found)) (length values)

-- what is told of a finding
pub record TellsExports (found : Finding) (names new_names : List SourceName) (values new_values : List ℕ)
    (answer : ExportsAnswer) (status : ℕ) : Type 0 where
  pub counts : answer ≡ record {
    exports = length (exports_in found);
    reexports = length (reexports_in found);
    value_bytes = length (joined (names_in found));
    fault = fault_of found;
    place = place_of found;
  }
  pub ranges : new_names ≡ after (names_fit (names_in found) names values) (ranges_from 0 (names_in found)) names
  pub texts : new_values ≡ after (names_fit (names_in found) names values) (joined (names_in found)) values
  pub ends : status ≡ status_of (names_fit (names_in found) names values) found

-- what a call answers of a source in these bytes whose media type has this number; as a module of CommonJS where a
-- number other than 0 asks for it
pub data AnswersExports (common_js : Bool) (number : ℕ) (bytes : List ℕ) (names new_names : List SourceName)
    (values new_values : List ℕ) (answer : ExportsAnswer) (status : ℕ) : Type 0 where
  told : (found : Finding) → HasExports common_js number bytes found
      → TellsExports found names new_names values new_values answer status
      → AnswersExports common_js number bytes names new_names values new_values answer status
  -- memory ran out
  no_memory : new_names ≡ names → new_values ≡ values
      → answer ≡ record { exports = 0; reexports = 0; value_bytes = 0; fault = 0; place = 0 } → status ≡ 5
      → AnswersExports common_js number bytes names new_names values new_values answer status
