-- One symbol more of a part that is read so far. Assumes nothing.
use Rattle.std.proofs.Common.{◌≡◌, ℕ, ◌≤◌, Bool, true, false, ◌≢◌, List, [], ◌∷◌, ◌++◌, sym, ap, ◌∙◌, subst, true≢false, arith, eqb-true}
use mathlib.Core.Bool.{false≢true}
use Rattle.crc.specs.Crc.{crc_of}
use Rattle.wire.specs.Pair.{expand_one}
use Rattle.wire.specs.Form.{covered, form, bytes_of}
use Rattle.wire.specs.Reader.{ended, read_place, read_at, read_as, read_one}
use Rattle.wire.specs.Reading.{BrokenAt, before, form_of}
use Rattle.wire.specs.Symbol.{is_escape, is_count}
use Rattle.wire.specs.declared.symbol.Kind.{Kind}
use Rattle.wire.specs.declared.symbol.Kind.TheVariants.{Escape, Count, Plain}
use Rattle.wire.specs.declared.pair.WrongPair.{WrongPair}
use Rattle.wire.specs.declared.part.Part.{Part}
use Rattle.wire.specs.declared.part.Telegram.{Telegram}
use Rattle.wire.specs.declared.reader.Cursor.{Cursor}
use Rattle.wire.specs.declared.reader.Outcome.{Outcome}
use Rattle.wire.specs.declared.reader.Outcome.TheVariants.{More, BrokenPair, Whole}
use Rattle.wire.proofs.SymbolKind.{by_kind}
use Rattle.wire.proofs.SoFar.{SoFar, IsWhole, short}
use Rattle.wire.proofs.ByPlace.{AfterAs, After, place_step}

-- one symbol more
pub step : {w : Part} {c : Cursor} {p : Telegram} {xs : List ℕ} → SoFar w c p xs → (s : ℕ) → After w (xs ++ (s ∷ [])) (read_one c p s)
unfolding read_one read_place ended
step {w} {c} {p} {xs} h s =
    by_kind (λ k. After w (xs ++ (s ∷ [])) (read_as k c p s)) s
    (λ e. tt)
    (λ e. at Escape (omega arith) (λ t. absurd (true≢false t)) (λ t. absurd (false≢true t)))
    (λ l. at Count (omega arith) (λ t. omega arith) (λ t. l))
    (λ a b l. at Plain a (λ t. b) (λ t. absurd (false≢true t)))
  where
    at : (k : Kind) → s ≢ 0xAA → (is_escape k ≡ false → s ≢ 0xA9) → (is_count k ≡ true → s ≤ 16)
        → After w (xs ++ (s ∷ [])) (read_at c.place c p s k)
    at k a n f =
        place_step c.at c.register c.nn p xs s h.counts h.array h.clear a (short h.upto)
        w c.place c.opened k n f h.upto

-- More: the symbol belongs to what is read so far
pub step_more : {w : Part} {c : Cursor} {p : Telegram} {xs : List ℕ} → SoFar w c p xs → (s : ℕ) → (read_one c p s).outcome ≡ More
    → SoFar w (read_one c p s).cursor (read_one c p s).part (xs ++ (s ∷ []))
step_more {w} {c} {p} {xs} h s e =
    let r = read_one c p s in
    subst (λ (o : Outcome). AfterAs o w r.cursor r.part (xs ++ (s ∷ []))) e (step h s)

-- Whole: the symbols read are those of a whole part
pub step_whole : {w : Part} {c : Cursor} {p : Telegram} {xs : List ℕ} {right : Bool} → SoFar w c p xs → (s : ℕ)
    → (read_one c p s).outcome ≡ Whole right → IsWhole w (read_one c p s).part (xs ++ (s ∷ [])) right
step_whole {w} {c} {p} {xs} h s e =
    let r = read_one c p s in
    subst (λ (o : Outcome). AfterAs o w r.cursor r.part (xs ++ (s ∷ []))) e (step h s)

-- BrokenPair: the symbols read end in that pair
pub step_broken : {w : Part} {c : Cursor} {p : Telegram} {xs : List ℕ} {x : WrongPair} → SoFar w c p xs → (s : ℕ)
    → (read_one c p s).outcome ≡ BrokenPair x → BrokenAt (before w (read_one c p s).part) (xs ++ (s ∷ [])) x
step_broken {w} {c} {p} {xs} h s e =
    let r = read_one c p s in
    subst (λ (o : Outcome). AfterAs o w r.cursor r.part (xs ++ (s ∷ []))) e (step h s)

-- and where the CRC matches, the symbols are the wire form of the part that is read
pub whole_form : {w : Part} {p : Telegram} {xs : List ℕ} → IsWhole w p xs true → xs ≡ form_of w p
unfolding form
whole_form {w} {p} {xs} h =
    let body = covered (before w p) (bytes_of p.load) in
    h.symbols ∙ ap (λ (k : ℕ). body ++ expand_one k) (eqb-true h.check (crc_of body) (sym h.judged))
