-- The first of some symbols: the reading goes on behind it, or stops at it. Assumes nothing.
use Rattle.std.proofs.Common.{◌≡◌, ℕ, ◌≢◌, ◌⊎◌, List, ◌∷◌, sym, refl, ap, subst, inl, inr, ⊎_elim}
use Rattle.wire.specs.Reader.{read_one}
use Rattle.wire.specs.Reading.{Read, go_on, read_all}
use Rattle.wire.specs.declared.part.Telegram.{Telegram}
use Rattle.wire.specs.declared.reader.Cursor.{Cursor}
use Rattle.wire.specs.declared.reader.Outcome.{Outcome}
use Rattle.wire.specs.declared.reader.Outcome.TheVariants.{More, Cut, NoMaster, Unusable, TooLong, BrokenPair, Whole}
use Rattle.wire.specs.declared.reader.Step.{Step}
use Rattle.wire.proofs.SymbolKind.{clash}

pub more_or_not : (o : Outcome) → (o ≡ More) ⊎ (o ≢ More)
more_or_not More = inl refl
more_or_not Cut = inr (λ e. clash (cc))
more_or_not NoMaster = inr (λ e. clash (cc))
more_or_not Unusable = inr (λ e. clash (cc))
more_or_not TooLong = inr (λ e. clash (cc))
more_or_not (BrokenPair x) = inr (λ e. clash (cc))
more_or_not (Whole right) = inr (λ e. clash (cc))

stopped : (o : Outcome) (on stop : Read) → o ≢ More → go_on o on stop ≡ stop
stopped More on stop n = absurd (n refl)
stopped Cut on stop n = refl
stopped NoMaster on stop n = refl
stopped Unusable on stop n = refl
stopped TooLong on stop n = refl
stopped (BrokenPair x) on stop n = refl
stopped (Whole right) on stop n = refl

module _ (c : Cursor) (p : Telegram) (s : ℕ) (ss : List ℕ) where
  pub first_more : (read_one c p s).outcome ≡ More → read_all c p (s ∷ ss) ≡ read_all (read_one c p s).cursor (read_one c p s).part ss
  unfolding read_all
  first_more e =
      ap (λ (o : Outcome). go_on o (read_all (read_one c p s).cursor (read_one c p s).part ss) (record { step = read_one c p s; rest = ss })) e

  pub first_stops : (read_one c p s).outcome ≢ More → read_all c p (s ∷ ss) ≡ record { step = read_one c p s; rest = ss }
  unfolding read_all
  first_stops n =
      stopped (read_one c p s).outcome (read_all (read_one c p s).cursor (read_one c p s).part ss)
      (record { step = read_one c p s; rest = ss }) n

  -- what holds in both cases holds of the whole reading
  pub by_first : (P : Read → Type 0) → ((read_one c p s).outcome ≡ More → P (read_all (read_one c p s).cursor (read_one c p s).part ss))
      → ((read_one c p s).outcome ≢ More → P (record { step = read_one c p s; rest = ss })) → P (read_all c p (s ∷ ss))
  by_first P f g =
      ⊎_elim (λ e. subst P (sym (first_more e)) (f e)) (λ n. subst P (sym (first_stops n)) (g n)) (more_or_not (read_one c p s).outcome)

  -- a step whose result is known
  pub known : (r : Step) → read_one c p s ≡ r
      → read_all c p (s ∷ ss) ≡ go_on r.outcome (read_all r.cursor r.part ss) (record { step = r; rest = ss })
  unfolding read_all
  known r e = ap (λ (r : Step). go_on r.outcome (read_all r.cursor r.part ss) (record { step = r; rest = ss })) e
