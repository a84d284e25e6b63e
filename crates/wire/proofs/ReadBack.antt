-- The wire form of a message is read back as that message. Assumes nothing.
use Rattle.std.proofs.Common.{◌≡◌, ℕ, false, List, [], ◌∷◌, ◌++◌, sym, refl, ◌∙◌}
use Rattle.crc.specs.Crc.{crc_step, crc_from, crc_of}
use Rattle.address.proofs.Masters.{master_no_other_use}
use Rattle.wire.specs.Form.{covered, form, head_of, bytes_of, telegram_form, answer_form}
use Rattle.wire.specs.Reader.{start_of, master_start, answer_start, with_qq, with_zz, with_pb, with_sb, with_load, more, onward, read_qq, read_head, read_place, read_as, read_one}
use Rattle.wire.specs.Reading.{Sixteen, Read, read_all, Usable, Message, SameMessage, GivesBack, ReadBack, form_of, read_into, If-master}
use Rattle.wire.specs.declared.part.Part.{Part}
use Rattle.wire.specs.declared.part.Part.TheVariants.{MasterPart, AnswerPart}
use Rattle.wire.specs.declared.part.Telegram.{Telegram}
use Rattle.wire.specs.declared.part.Load.{Load}
use Rattle.wire.specs.declared.reader.Place.TheVariants.{Zz, Pb, Sb, Nn}
use Rattle.wire.specs.declared.reader.Cursor.{Cursor}
use Rattle.wire.specs.Symbol.{is_escape}
use Rattle.wire.specs.declared.symbol.Kind.{Kind}
use Rattle.wire.specs.declared.symbol.Kind.TheVariants.{Count, Plain}
use Rattle.wire.proofs.SymbolKind.{by_kind}
use Rattle.wire.proofs.Symbols.{at_most_16}
use Rattle.wire.proofs.FromNn.{goes_on, here, nn_ends}

-- ---- QQ ZZ PB SB

usable_goes_on : (c c' : Cursor) (p p' : Telegram) (s : ℕ) (ss : List ℕ) → Usable s
    → ((k : Kind) → is_escape k ≡ false → read_place c p s k ≡ more c' p')
    → read_all c p (s ∷ ss) ≡ read_all c' p' ss
unfolding read_one
usable_goes_on c c' p p' s ss u f =
    goes_on c c' p p' s ss
    (by_kind (λ k. read_as k c p s ≡ more c' p') s (λ e. absurd (u.not_syn e)) (λ e. absurd (u.not_escape e)) (λ l. f Count refl)
    (λ a b l. f Plain refl))

head_goes_on : (t p : Telegram) (ss : List ℕ) → Message t
    → read_all master_start p (head_of t ++ ss)
    ≡ read_all (here 4 (crc_of (head_of t)) 0 Nn false) (record { qq = t.qq; zz = t.zz; pb = t.pb; sb = t.sb; load = p.load }) ss
unfolding master_start crc_of crc_from read_place read_qq read_head onward
head_goes_on t p ss m =
    let q = t.qq in
    let z = t.zz in
    let b = t.pb in
    let s = t.sb in
    let r₁ = crc_step 0 q in
    let r₂ = crc_step r₁ z in
    let r₃ = crc_step r₂ b in
    let p₁ = with_qq p q in
    let p₂ = with_zz p₁ z in
    let p₃ = with_pb p₂ b in
    let other = master_no_other_use q m.qq in
    usable_goes_on master_start (here 1 r₁ 0 Zz false) p p₁ q (z ∷ b ∷ s ∷ ss) (record { not_escape = other.0; not_syn = other.1 })
    (λ k e. rw m.qq)
    ∙ usable_goes_on (here 1 r₁ 0 Zz false) (here 2 r₂ 0 Pb false) p₁ p₂ z (b ∷ s ∷ ss) m.zz (λ k e. rw e)
    ∙ usable_goes_on (here 2 r₂ 0 Pb false) (here 3 r₃ 0 Sb false) p₂ p₃ b (s ∷ ss) m.pb (λ k e. rw e)
    ∙ usable_goes_on (here 3 r₃ 0 Sb false) (here 4 (crc_step r₃ s) 0 Nn false) p₃ (with_sb p₃ s) s ss m.sb (λ k e. rw e)

-- ---- the theorems

given_back : {rest : List ℕ} {r : Read} (t : Telegram) → GivesBack (head_of t) (bytes_of t.load) rest r → ReadBack t rest r
given_back t h = record { outcome = h.outcome; same = record { head = h.head; bytes = h.bytes }; rest = h.rest }

-- a wire form is read back as the message that it is of, whatever stood in the reader's memory (p) and whatever follows
pub read_back : (w : Part) (t p : Telegram) (rest : List ℕ) → If-master w (Message t) → Sixteen t.load → Sixteen p.load
    → ReadBack (read_into w p t) rest (read_all (start_of w) p (form_of w t ++ rest))
unfolding form covered crc_of crc_from answer_start
read_back MasterPart t p rest m full array =
    given_back t
    (rw (head_goes_on t p _ m)
    (nn_ends 4 (crc_of (head_of t)) 0 (record { qq = t.qq; zz = t.zz; pb = t.pb; sb = t.sb; load = p.load }) (bytes_of t.load) rest
    array (at_most_16 t.load full)))
read_back AnswerPart t p rest m full array =
    given_back (with_load p t.load) (nn_ends 0 0 0 p (bytes_of t.load) rest array (at_most_16 t.load full))

-- for a master part, in the words of the code
pub telegram_read_back : (t p : Telegram) (rest : List ℕ) → Message t → Sixteen t.load → Sixteen p.load
    → ReadBack t rest (read_all master_start p (telegram_form t ++ rest))
unfolding telegram_form
telegram_read_back t p rest m full array = read_back MasterPart t p rest m full array

-- for an answer
pub answer_read_back : (l : Load) (p : Telegram) (rest : List ℕ) → Sixteen l → Sixteen p.load
    → ReadBack (with_load p l) rest (read_all answer_start p (answer_form l ++ rest))
unfolding answer_form
answer_read_back l p rest full array = read_back AnswerPart (with_load p l) p rest tt full array

-- two messages with the same wire form are the same message
pub forms_apart : (t u : Telegram) → Message t → Message u → Sixteen t.load → Sixteen u.load
    → telegram_form t ≡ telegram_form u → SameMessage t u
forms_apart t u m n full array e =
    let a = telegram_read_back t t [] m full full in
    let b = rw (← e) at (telegram_read_back u t [] n array full) in
    record { head = sym a.same.head ∙ b.same.head; bytes = sym a.same.bytes ∙ b.same.bytes }

-- and two answers with the same wire form carry the same data bytes
pub answer_forms_apart : (l m : Load) → Sixteen l → Sixteen m → answer_form l ≡ answer_form m → bytes_of l ≡ bytes_of m
answer_forms_apart l m full array e =
    let p : Telegram = record { qq = 0; zz = 0; pb = 0; sb = 0; load = l } in
    let b = rw (← e) at (answer_read_back m p [] array full) in
    sym (answer_read_back l p [] full full).same.bytes ∙ b.same.bytes
