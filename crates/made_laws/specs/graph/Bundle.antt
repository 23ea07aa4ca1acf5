-- Bundles made by number, as they are read.
use Rattle.std.specs.Prelude.{ℕ, zero, suc, false, List, [], ◌∷◌, None}
use Rattle.url.specs.Parts.{Parts}
use Rattle.graph_entry.specs.declared.kind.GraphKind.TheVariants.{All}
use Rattle.graph_entry.specs.declared.answer.LoadAnswer.{LoadAnswer}
use Rattle.graph_entry.specs.declared.answer.LoadAnswer.TheVariants.{Content}
use Rattle.graph_bundle.specs.declared.bundle.Bundle.{Bundle}
use Rattle.made_bundle.specs.Made.{module_text}
use Rattle.made_laws.specs.Urls.{url_at}

-- a module: its text, without headers
abbrev pub module_at : ℕ → ℕ → Parts × LoadAnswer
module_at count i = (url_at i, Content [] (module_text count i))

-- so many modules from a number on
abbrev pub modules_at : ℕ → ℕ → ℕ → List (Parts × LoadAnswer)
modules_at count i zero = []
modules_at count i (suc k) = module_at count i ∷ modules_at count (suc i) k

-- the bundle of so many modules
abbrev pub bundle_at : ℕ → Bundle
bundle_at count = record {
  roots = url_at 0 ∷ [];
  options = record { kind = All; limit = count; skip_dynamic_deps = false; imports = [] };
  modules = modules_at count 0 count;
  arrival = [];
  import_map = None;
}
