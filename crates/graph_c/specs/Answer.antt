-- What joravelsu_sites leaves in the caller's buffers.
use Rattle.std.specs.Prelude.{◌≡◌, ℕ, ◌+◌, Bool, ◌&&◌, nat_le, List, [], ◌∷◌, ◌++◌, length}
use Rattle.std.specs.List.{flat_map}
use Rattle.es_site.specs.declared.site.Site.{Site}
use Rattle.es_site.specs.declared.site.DependencyKind.{DependencyKind}
use Rattle.es_site.specs.declared.site.DependencyKind.TheVariants.{Import, ImportSource, ImportDefer, Export, ImportEquals, Dynamic, DynamicSource, DynamicDefer, ReferencePath, ReferenceTypes, Wasm, Referrer, Require, RequireResolve, TypeImport, Worker, Address}
use Rattle.es_site.specs.declared.site.Attribute.{Attribute}
use Rattle.es_site.specs.declared.site.Attribute.TheVariants.{Absent, Named, Unknown}
use Rattle.graph_c.specs.declared.answer.SourceSite.{SourceSite}
use Rattle.graph_c.specs.declared.answer.Answer.{Answer}
use Rattle.graph_c.specs.declared.finding.Finding.{Finding}
use Rattle.graph_c.specs.declared.finding.Finding.TheVariants.{Found}
use Rattle.graph_c.specs.Finding.{IsFinding}
use Rattle.graph_c.specs.Told.{fault_of, place_of, status_of, after}

-- ---- numbers of the header

abbrev pub kind_number : DependencyKind → ℕ
kind_number Import = 0
kind_number Export = 1
kind_number ImportEquals = 2
kind_number Dynamic = 3
kind_number ReferencePath = 4
kind_number ReferenceTypes = 5
kind_number Wasm = 6
kind_number Referrer = 7
kind_number ImportSource = 8
kind_number ImportDefer = 9
kind_number DynamicSource = 10
kind_number DynamicDefer = 11
kind_number Require = 12
kind_number RequireResolve = 13
kind_number TypeImport = 14
kind_number Worker = 15
kind_number Address = 16

-- whether a site has an import attribute `type`: no, the text doesn't say, or yes
abbrev pub attribute_number : Attribute → ℕ
attribute_number Absent = 0
attribute_number Unknown = 1
attribute_number (Named text) = 2

-- ---- what is told

-- the sites that were found
abbrev pub found_in : Finding → List Site
found_in (Found sites) = sites
found_in _ = []

-- the text of its attribute, or none
abbrev pub attribute_text : Attribute → List ℕ
attribute_text (Named text) = text
attribute_text _ = []

-- its value and the text of its attribute
abbrev pub texts_of : Site → List ℕ
texts_of site = site.value ++ attribute_text site.attribute

-- a site whose value stands from one place to the next among the texts, and its attribute from there to the third
abbrev pub record_of : Site → ℕ → ℕ → ℕ → SourceSite
record_of site from between to = record {
  kind = kind_number site.kind;
  type_only = site.type_only;
  start = site.range.start;
  end = site.range.end;
  value_start = from;
  value_end = between;
  attribute = attribute_number site.attribute;
  attribute_start = between;
  attribute_end = to;
}

-- sites whose texts stand one behind the other from there on
abbrev pub records_from : ℕ → List Site → List SourceSite
records_from at [] = []
records_from at (site ∷ sites) =
    record_of site at (at + length site.value) (at + length (texts_of site))
    ∷ records_from (at + length (texts_of site)) sites

-- the texts, one behind the other
abbrev pub values_of : List Site → List ℕ
values_of sites = flat_map texts_of sites

-- both buffers are large enough for the sites
abbrev pub fits : List Site → List SourceSite → List ℕ → Bool
fits found sites values = nat_le (length found) (length sites) && nat_le (length (values_of found)) (length values)

-- what is told of a finding
pub record TellsFinding (finding : Finding) (sites new_sites : List SourceSite) (values new_values : List ℕ) (answer : Answer)
    (status : ℕ) : Type 0 where
  pub counts : answer ≡ record {
    sites = length (found_in finding);
    value_bytes = length (values_of (found_in finding));
    fault = fault_of finding;
    place = place_of finding;
  }
  pub records : new_sites ≡ after (fits (found_in finding) sites values) (records_from 0 (found_in finding)) sites
  pub texts : new_values ≡ after (fits (found_in finding) sites values) (values_of (found_in finding)) values
  pub ends : status ≡ status_of (fits (found_in finding) sites values) finding

-- what a call answers of a source in these bytes whose media type has this number
pub data AnswersSites (number : ℕ) (bytes : List ℕ) (sites new_sites : List SourceSite) (values new_values : List ℕ)
    (answer : Answer) (status : ℕ) : Type 0 where
  told : (finding : Finding) → IsFinding number bytes finding
      → TellsFinding finding sites new_sites values new_values answer status
      → AnswersSites number bytes sites new_sites values new_values answer status
  -- memory ran out
  no_memory : new_sites ≡ sites → new_values ≡ values
      → answer ≡ record { sites = 0; value_bytes = 0; fault = 0; place = 0 } → status ≡ 5
      → AnswersSites number bytes sites new_sites values new_values answer status
