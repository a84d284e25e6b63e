-- The kind of a symbol says what the symbol is, and the symbol says its kind. Assumes nothing.
use Rattle.std.proofs.Common.{◌≡◌, ℕ, ◌<◌, ◌≤◌, Bool, true, false, cond, eqb, leb, ◌≢◌, ◌↔◌, refl, arith, ne_eqb, eqb-true, le-leb, leb-false, leb-true}
use borrow.Author.Tests.{eqb-false}
use Rattle.wire.specs.Symbol.{kind_of}
use Rattle.wire.specs.declared.symbol.Kind.{Kind}
use Rattle.wire.specs.declared.symbol.Kind.TheVariants.{Syn, Escape, Count, Plain}

-- what holds of each kind of symbol holds of this one's
pub by_kind : (P : Kind → Type 0) (s : ℕ) → (s ≡ 0xAA → P Syn) → (s ≡ 0xA9 → P Escape) → (s ≤ 16 → P Count)
    → (s ≢ 0xAA → s ≢ 0xA9 → 16 < s → P Plain) → P (kind_of s)
unfolding kind_of
by_kind P s syn escape count plain = go (eqb s 0xAA) (eqb s 0xA9) (leb s 16) refl refl refl
  where
    go : (a b c : Bool) → eqb s 0xAA ≡ a → eqb s 0xA9 ≡ b → leb s 16 ≡ c → P (cond a Syn (cond b Escape (cond c Count Plain)))
    go true b c p q r = syn (eqb-true s 0xAA p)
    go false true c p q r = escape (eqb-true s 0xA9 q)
    go false false true p q r = count (leb-true s 16 r)
    go false false false p q r = plain (eqb-false s 0xAA p) (eqb-false s 0xA9 q) (leb-false s 16 r)

pub clash : {A : Type 0} → ◌≡◌ {A = ℕ} 0 1 → A
clash z = absurd (omega arith)

-- AA and nothing else is SYN
pub kind_syn : (s : ℕ) → kind_of s ≡ Syn ↔ s ≡ 0xAA
unfolding kind_of
kind_syn s =
    (by_kind (λ k. k ≡ Syn → s ≡ 0xAA) s (λ h e. h) (λ h e. clash (cc)) (λ h e. clash (cc)) (λ a b h e. clash (cc)), λ e. rw e)

-- A9 and nothing else is the escape
pub kind_escape : (s : ℕ) → kind_of s ≡ Escape ↔ s ≡ 0xA9
unfolding kind_of
kind_escape s =
    (by_kind (λ k. k ≡ Escape → s ≡ 0xA9) s (λ h e. clash (cc)) (λ h e. h) (λ h e. clash (cc)) (λ a b h e. clash (cc)), λ e. rw e)

-- 0 to 16 and nothing else is a count
pub kind_count : (s : ℕ) → kind_of s ≡ Count ↔ s ≤ 16
unfolding kind_of
kind_count s = (
  by_kind (λ k. k ≡ Count → s ≤ 16) s (λ h e. clash (cc)) (λ h e. clash (cc)) (λ h e. h) (λ a b h e. clash (cc)),
  λ h. simp (ne_eqb s 0xAA (omega arith), ne_eqb s 0xA9 (omega arith), le-leb s 16 h),
)
