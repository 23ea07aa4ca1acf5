-- What is written of parts that stay as they are.
use Rattle.std.specs.Prelude.{ℕ, List, [], ◌∷◌}
use Rattle.std.proofs.Common.{◌≡◌, sym, ap, ◌∙◌}
use Rattle.es_token.specs.declared.token.Token.{Token}
use Rattle.es_lowering.specs.Value.{Value, nil, more}
use Rattle.es_changed.specs.declared.entry.ChangedEntry.{ChangedEntry}
use Rattle.es_changed.specs.Shape.{Writes}
use Rattle.es_changed.proofs.Written.{nothing_written, both_written}
use Rattle.dts_enums.specs.Enums.{Copies, Something}

module _ (x : List ℕ) (ts : List Token) where
  -- what is left leads to all
  pub record CopiesLeft (start now : List ChangedEntry) (all left : Value) : Type 0 where
    pub leads : (new : List ChangedEntry) → Copies x ts now new left → Copies x ts start new all

  pub copies_all : (start : List ChangedEntry) (all : Value) → CopiesLeft start start all all
  copies_all start all = record { leads = λ new c. c }

  pub copies_next : (start now next : List ChangedEntry) (all left v rest : Value) → left ≡ more v rest
      → CopiesLeft start now all left → Writes x ts now next (v ∷ []) → CopiesLeft start next all rest
  copies_next start now next all left v rest e before w = record {
    leads = λ new c.
        before.leads new (record {
          values = v ∷ c.values;
          writes = both_written x ts now next new (v ∷ []) c.values w c.writes;
          are = ap (λ (vs : Value). more v vs) c.are ∙ sym e;
        });
  }

  pub copies_done : (start now : List ChangedEntry) (all left : Value) → left ≡ nil → CopiesLeft start now all left
      → Copies x ts start now all
  copies_done start now all left e before =
      before.leads now (record { values = []; writes = nothing_written x ts now; are = sym e })

  pub copies_something : (old new : List ChangedEntry) (row : Value) → Copies x ts old new row → Something x ts old new
  copies_something old new row c = record { values = c.values; writes = c.writes }

  pub nothing_more : (old : List ChangedEntry) → Something x ts old old
  nothing_more old = record { values = []; writes = nothing_written x ts old }
