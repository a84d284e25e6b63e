-- How many symbols a wire form has, and that none of them is AA. Assumes nothing.
use Rattle.std.proofs.Common.{ℕ, zero, suc, ◌+◌, ◌*◌, ◌<◌, ◌≤◌, ◌≢◌, List, [], ◌∷◌, ◌++◌, length, get_or, le_trans, le_of_suc-le-suc, not-suc-le-zero, arith, length-append, length-take}
use Rattle.address.proofs.Masters.{master_no_other_use}
use Rattle.wire.specs.Pair.{expand_as, expand_one, expand}
use Rattle.wire.specs.Form.{room, covered, form, bytes_of, telegram_form, answer_form}
use Rattle.wire.specs.Reading.{Sixteen, Message, NoSyn, none, next, before, form_of, If-master}
use Rattle.wire.specs.declared.part.Part.{Part}
use Rattle.wire.specs.declared.part.Part.TheVariants.{MasterPart, AnswerPart}
use Rattle.wire.specs.declared.part.Load.{Load}
use Rattle.wire.specs.declared.part.Telegram.{Telegram}
use Rattle.wire.proofs.Expand.{length_one, length_expand}
use Rattle.wire.proofs.SymbolKind.{by_kind}

-- ---- how many

pub length_covered : (head bytes : List ℕ) → length (covered head bytes) ≤ length head + 1 + 2 * length bytes
unfolding covered
length_covered head bytes = omega (arith, length-append head (length bytes ∷ expand bytes), length_expand bytes)

-- a check symbol behind them, whichever it is
length_checked : (xs : List ℕ) (check : ℕ) → length (xs ++ expand_one check) ≤ length xs + 2
length_checked xs check = omega (arith, length-append xs (expand_one check), length_one check)

-- what stands before NN, NN, two symbols at most for each data byte, two at most for the CRC
pub length_form : (head bytes : List ℕ) → length (form head bytes) ≤ length head + 3 + 2 * length bytes
unfolding form
length_form head bytes = le_trans (length_checked (covered head bytes) _) (omega (arith, length_covered head bytes))

-- an array of 16 has room for 16 data bytes
pub at_most_16 : (l : Load) → Sixteen l → length (bytes_of l) ≤ 16
at_most_16 l full = omega (arith, length-take l.nn l.bytes)

-- a master part with at most 16 data bytes has at most 39 symbols: 4 + 1 + 32 + 2
pub at_most_39 : (qq zz pb sb : ℕ) (bytes : List ℕ) → length bytes ≤ 16 → length (form (qq ∷ zz ∷ pb ∷ sb ∷ []) bytes) ≤ 39
at_most_39 qq zz pb sb bytes h = omega (arith, length_form (qq ∷ zz ∷ pb ∷ sb ∷ []) bytes)

-- and so has every telegram
pub telegram_at_most_39 : (t : Telegram) → Sixteen t.load → length (telegram_form t) ≤ 39
unfolding telegram_form
telegram_at_most_39 t full = at_most_39 t.qq t.zz t.pb t.sb (bytes_of t.load) (at_most_16 t.load full)

-- an answer has at most 35
pub answer_at_most_35 : (l : Load) → Sixteen l → length (answer_form l) ≤ 35
unfolding answer_form
answer_at_most_35 l full = omega (arith, length_form [] (bytes_of l), at_most_16 l full)

-- so the wire buffer has room for each of them
pub telegram_fits : (t : Telegram) → Sixteen t.load → length (telegram_form t) ≤ room
telegram_fits t full = omega (arith, telegram_at_most_39 t full)

pub answer_fits : (l : Load) → Sixteen l → length (answer_form l) ≤ room
answer_fits l full = omega (arith, answer_at_most_35 l full)

-- ---- none is AA

-- a run with no AA has none at any place
pub no_syn_at : {xs : List ℕ} → NoSyn xs → (i : ℕ) → i < length xs → get_or xs i 0 ≢ 0xAA
no_syn_at none i h = absurd (not-suc-le-zero h)
no_syn_at (next n r) zero h = n
no_syn_at (next n r) (suc i) h = no_syn_at r i (le_of_suc-le-suc h)

pub no_syn_append : {xs ys : List ℕ} → NoSyn xs → NoSyn ys → NoSyn (xs ++ ys)
no_syn_append none m = m
no_syn_append (next n r) m = next n (no_syn_append r m)

-- the expansion is there to keep AA off the wire
pub no_syn_one : (b : ℕ) → NoSyn (expand_one b)
unfolding expand_one
no_syn_one b =
    by_kind (λ k. NoSyn (expand_as k b)) b (λ h. next (omega arith) (next (omega arith) none))
    (λ h. next (omega arith) (next (omega arith) none)) (λ h. next (omega arith) none) (λ a c h. next a none)

pub no_syn_expand : (bytes : List ℕ) → NoSyn (expand bytes)
unfolding expand
no_syn_expand [] = none
no_syn_expand (b ∷ bs) = no_syn_append (no_syn_one b) (no_syn_expand bs)

-- a part with at most 16 data bytes and no AA before NN
pub no_syn_form : (head bytes : List ℕ) → NoSyn head → length bytes ≤ 16 → NoSyn (form head bytes)
unfolding form covered
no_syn_form head bytes clear h =
    no_syn_append (no_syn_append clear (next (omega arith) (no_syn_expand bytes))) (no_syn_one _)

heading_no_syn : (w : Part) (t : Telegram) → If-master w (Message t) → NoSyn (before w t)
heading_no_syn MasterPart t m =
    next (master_no_other_use t.qq m.qq).1 (next m.zz.not_syn (next m.pb.not_syn (next m.sb.not_syn none)))
heading_no_syn AnswerPart t m = none

-- no symbol of a message's wire form is AA, nor of any answer's
pub no_syn : (w : Part) (t : Telegram) → If-master w (Message t) → Sixteen t.load → NoSyn (form_of w t)
no_syn w t m full = no_syn_form (before w t) (bytes_of t.load) (heading_no_syn w t m) (at_most_16 t.load full)

-- in the words of the code
pub telegram_no_syn : (t : Telegram) → Message t → Sixteen t.load → NoSyn (telegram_form t)
unfolding telegram_form
telegram_no_syn t m full = no_syn MasterPart t m full

pub answer_no_syn : (l : Load) → Sixteen l → NoSyn (answer_form l)
unfolding answer_form
answer_no_syn l full = no_syn_form [] (bytes_of l) none (at_most_16 l full)
