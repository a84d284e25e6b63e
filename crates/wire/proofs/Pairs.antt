-- What a symbol is undone to, told by the expansion. Assumes nothing.
use Rattle.std.proofs.Common.{◌≡◌, ℕ, Bool, true, false, cond, eqb, ◌↔◌, List, [], ◌∷◌, ◌++◌, sym, refl, ap, ◌∙◌, ne_eqb, eqb-true}
use mathlib.Core.Bool.{false≢true}
use borrow.Author.Tests.{eqb-false}
use Rattle.wire.specs.Symbol.{kind_of}
use Rattle.wire.specs.Pair.{expand_as, expand_one, undo_as, undo_first, wrong_pair, undo_second, undo}
use Rattle.wire.specs.Reading.{Wrong}
use Rattle.wire.specs.declared.symbol.Kind.{Kind}
use Rattle.wire.specs.declared.symbol.Kind.TheVariants.{Syn, Escape, Count, Plain}
use Rattle.wire.specs.declared.pair.Undone.{Undone}
use Rattle.wire.specs.declared.pair.Undone.TheVariants.{Byte, Opens, Ends, Broken}
use Rattle.wire.specs.declared.pair.WrongPair.{WrongPair}
use Rattle.wire.proofs.SymbolKind.{by_kind, clash, kind_syn}

-- the A9 that waits for its second symbol
abbrev pub pending : Bool → List ℕ
pending true = 0xA9 ∷ []
pending false = []

-- the symbol after an A9, by its three tests
abbrev after : Bool → Bool → Bool → ℕ → ℕ → Undone
after x y z at s = cond x (Byte 0xA9) (cond y (Byte 0xAA) (cond z Ends (Broken (wrong_pair at s))))

-- a symbol that is undone to a byte ends that byte's expansion
pub undo_byte : (o : Bool) (at s b : ℕ) → undo o at s ≡ Byte b → pending o ++ (s ∷ []) ≡ expand_one b
unfolding undo undo_first undo_second expand_one kind_of
undo_byte true at s b e = go (eqb s 0x00) (eqb s 0x01) (eqb s 0xAA) refl refl e
  where
    go : (x y z : Bool) → eqb s 0x00 ≡ x → eqb s 0x01 ≡ y → after x y z at s ≡ Byte b → ◌≡◌ {A = List ℕ} (0xA9 ∷ s ∷ []) (expand_one b)
    go true y z p q e =
        let f : 0xA9 ≡ b = cc in
        ap (λ (x : ℕ). 0xA9 ∷ x ∷ []) (eqb-true s 0x00 p) ∙ ap expand_one f
    go false true z p q e =
        let f : 0xAA ≡ b = cc in
        ap (λ (x : ℕ). 0xA9 ∷ x ∷ []) (eqb-true s 0x01 q) ∙ ap expand_one f
    go false false true p q e = clash (cc)
    go false false false p q e = clash (cc)
undo_byte false at s b e = go (kind_of s) refl e
  where
    go : (k : Kind) → kind_of s ≡ k → undo_as k s ≡ Byte b → s ∷ [] ≡ expand_one b
    go Syn p e = clash (cc)
    go Escape p e = clash (cc)
    go Count p e = let f : s ≡ b = cc in ap (λ (k : Kind). expand_as k s) (sym p) ∙ ap expand_one f
    go Plain p e = let f : s ≡ b = cc in ap (λ (k : Kind). expand_as k s) (sym p) ∙ ap expand_one f

-- a symbol that opens a pair is A9, and no A9 stood before it
pub undo_opens : (o : Bool) (at s : ℕ) → undo o at s ≡ Opens → pending o ++ (s ∷ []) ≡ pending true
unfolding undo undo_first undo_second
undo_opens true at s = go (eqb s 0x00) (eqb s 0x01) (eqb s 0xAA)
  where
    go : (x y z : Bool) → after x y z at s ≡ Opens → ◌≡◌ {A = List ℕ} (0xA9 ∷ s ∷ []) (0xA9 ∷ [])
    go true y z e = clash (cc)
    go false true z e = clash (cc)
    go false false true e = clash (cc)
    go false false false e = clash (cc)
undo_opens false at s =
    by_kind (λ k. undo_as k s ≡ Opens → s ∷ [] ≡ 0xA9 ∷ []) s (λ h e. clash (cc)) (λ h e. ap (λ (x : ℕ). x ∷ []) h) (λ h e. clash (cc))
    (λ a b h e. clash (cc))

-- a symbol that breaks a pair: an A9 stands right before it, and it is none of 00, 01 and AA
pub record Breaks (o : Bool) (at s : ℕ) (x : WrongPair) : Type 0 where
  pub opened : o ≡ true
  pub wrong : Wrong s
  pub says : x ≡ wrong_pair at s

-- exactly such a one is said to be broken
pub undo_broken : (o : Bool) (at s : ℕ) (x : WrongPair) → (undo o at s ≡ Broken x) ↔ Breaks o at s x
unfolding undo undo_first undo_second
undo_broken true at s x = (λ e. go (eqb s 0x00) (eqb s 0x01) (eqb s 0xAA) refl refl refl e, back)
  where
    go : (p q r : Bool) → eqb s 0x00 ≡ p → eqb s 0x01 ≡ q → eqb s 0xAA ≡ r → after p q r at s ≡ Broken x → Breaks true at s x
    go true q r i j k e = clash (cc)
    go false true r i j k e = clash (cc)
    go false false true i j k e = clash (cc)
    go false false false i j k e =
        record {
          opened = refl;
          wrong = record { not_00 = eqb-false s 0x00 i; not_01 = eqb-false s 0x01 j; not_syn = eqb-false s 0xAA k };
          says = cc;
        }

    back : Breaks true at s x → after (eqb s 0x00) (eqb s 0x01) (eqb s 0xAA) at s ≡ Broken x
    back w = rw (ne_eqb s 0x00 w.wrong.not_00, ne_eqb s 0x01 w.wrong.not_01, ne_eqb s 0xAA w.wrong.not_syn, w.says)
undo_broken false at s x = (by_kind (λ k. undo_as k s ≡ Broken x → Breaks false at s x) s (λ h e. clash (cc)) (λ h e. clash (cc)) (λ h e. clash (cc)) (λ a b h e. clash (cc)), λ w. absurd (false≢true w.opened))

-- AA ends the reading, also right after an A9, and nothing else does
pub undo_ends : (o : Bool) (at s : ℕ) → (undo o at s ≡ Ends) ↔ (s ≡ 0xAA)
unfolding undo undo_first undo_second
undo_ends true at s = (go (eqb s 0x00) (eqb s 0x01) (eqb s 0xAA) refl, λ e. rw e)
  where
    go : (p q r : Bool) → eqb s 0xAA ≡ r → after p q r at s ≡ Ends → s ≡ 0xAA
    go true q r i e = clash (cc)
    go false true r i e = clash (cc)
    go false false true i e = eqb-true s 0xAA i
    go false false false i e = clash (cc)
undo_ends false at s = (
  by_kind (λ k. undo_as k s ≡ Ends → s ≡ 0xAA) s (λ h e. h) (λ h e. clash (cc)) (λ h e. clash (cc)) (λ a b h e. clash (cc)),
  λ e. ap (λ (k : Kind). undo_as k s) ((kind_syn s).1 e),
)
