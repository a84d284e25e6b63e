-- The stations that a slot passes by: the slot would have left them as they are, or they say nothing. Who owes no answer is
-- ready as it is. Assumes nothing.
use Rattle.std.proofs.Common.{◌≡◌, ℕ, true, false, eqb, sym, refl, ap, ◌∙◌, true≢false}
use mathlib.Core.Bool.{false≢true}
use Rattle.station.specs.Admission.{since_next, over_now, noted, bids, say_bid}
use Rattle.station.specs.Hear.{hear_quiet, hear_symbol, hears}
use Rattle.station.specs.Table.{heard_nothing, heard_other, row}
use Rattle.station.specs.Station.{syn, ready, acknowledgement, says}
use Rattle.station.specs.Turn.{goes, with_access}
use Rattle.station.specs.declared.phase.Phase.{Phase}
use Rattle.station.specs.declared.phase.Phase.TheVariants.{Silent, Reading, Sending, Awaiting, Judging, Owing, Releasing}
use Rattle.station.specs.declared.phase.Since.{Since}
use Rattle.station.specs.declared.phase.Since.TheVariants.{Nothing, OneSymbol, ManyOrNoSyn}
use Rattle.station.specs.declared.phase.Sound.{Sound}
use Rattle.station.specs.declared.phase.Sound.TheVariants.{Quiet, Symbol}
use Rattle.station.specs.declared.phase.Told.TheVariants.{Silence}
use Rattle.station.specs.declared.station.Station.{Station}
use Rattle.station.specs.declared.station.Turn.{Turn}
use Rattle.bus.specs.Slot.{said_by, turned}
use Rattle.bus.specs.Still.{skips_quiet, counted_out, skips_symbol, skips, still, mute, owes}
use Rattle.bus.specs.Told.{is_told, is_owns}
use Rattle.bus.proofs.Tens.{not_first, silence, untold_owns}

-- ---- a station that is ready as it is

-- who owes no answer is ready as it is
ready_in : (p : Phase) (s : Station) → s.phase ≡ p → owes p ≡ false → ready s ≡ s
unfolding ready
ready_in Silent s e h = rw e
ready_in (Reading c p a) s e h = rw e
ready_in (Sending at p a) s e h = rw e
ready_in (Awaiting p a) s e h = rw e
ready_in (Judging p a m k) s e h = rw e
ready_in Owing s e h = absurd (true≢false h)
ready_in Releasing s e h = rw e

pub ready_so : (s : Station) → owes s.phase ≡ false → ready s ≡ s
ready_so s h = ready_in s.phase s refl h

skipper_owes : (p : Phase) → skips_quiet p ≡ true → owes p ≡ false
skipper_owes Silent h = refl
skipper_owes (Reading c p a) h = refl
skipper_owes (Sending at p a) h = refl
skipper_owes (Awaiting p a) h = refl
skipper_owes (Judging p a m k) h = refl
skipper_owes Owing h = absurd (false≢true h)
skipper_owes Releasing h = refl

-- ---- a station that says nothing

says_so : (p : Phase) (s : Station) → s.phase ≡ p → s.admitted ≡ false → skips_quiet p ≡ true → says s ≡ Quiet
unfolding says say_bid bids acknowledgement
says_so Silent s e a h = rw e
says_so (Reading c p q) s e a h = rw (e, a)
says_so (Sending at p q) s e a h = absurd (false≢true h)
says_so (Awaiting p q) s e a h = rw e
says_so (Judging p q m k) s e a h = rw (e, h)
says_so Owing s e a h = absurd (false≢true h)
says_so Releasing s e a h = absurd (false≢true h)

pub mute_says : (t : Turn) → mute t ≡ true → said_by t ≡ Quiet
unfolding mute
mute_says t e =
    let h = not_first t.station.admitted _ e in
    rw (ready_so t.station (skipper_owes t.station.phase h.1)) (says_so t.station.phase t.station refl h.0 h.1)

-- ---- a station that the slot leaves as it is

-- told nothing, not admitted, and in the phase that it was in
same : (t : Turn) (p : Phase) (n : Since) → t.told ≡ Silence → t.station.admitted ≡ false → t.station.since ≡ n
    → t.station.phase ≡ p → t ≡ goes (with_access t.station false t.station.marked n) p Silence
unfolding goes
same t p n w a f e =
    λ i.
    record {
      station =
          record {
            address = t.station.address;
            master = t.station.master;
            admitted = a i;
            marked = t.station.marked;
            since = f i;
            phase = e i;
            part = t.station.part;
            out = t.station.out;
            outbox = t.station.outbox;
            replies = t.station.replies;
          };
      told = w i;
    }

in_phase : (t : Turn) {p : Phase} → t.station.phase ≡ p → hear_quiet t.station ≡ row p heard_nothing (bids t.station) (over_now t.station)
unfolding hear_quiet
in_phase t e = ap (λ (p : Phase). row p heard_nothing (bids t.station) (over_now t.station)) e

quiet_so : (p : Phase) (t : Turn) → t.station.phase ≡ p → t.told ≡ Silence → t.station.admitted ≡ false → skips_quiet p ≡ true
    → hear_quiet t.station ≡ t
quiet_so Silent t e w a h = in_phase t e ∙ sym (same t _ _ w a refl e)
quiet_so (Reading c p q) t e w a h = in_phase t e ∙ sym (same t _ _ w a refl e)
quiet_so (Sending at p q) t e w a h = absurd (false≢true h)
quiet_so (Awaiting p q) t e w a h = in_phase t e ∙ sym (same t _ _ w a refl e)
quiet_so (Judging p q m k) t e w a h = in_phase t e ∙ sym (same t _ _ w a refl (e ∙ ap (Judging p q m) h))
quiet_so Owing t e w a h = absurd (false≢true h)
quiet_so Releasing t e w a h = absurd (false≢true h)

-- a symbol that is not AA
no_syn : (s : Station) (x : ℕ) → eqb x syn ≡ false → hears s (Symbol x) ≡ hear_symbol s x
unfolding hears
no_syn s x e = rw e

since_other : (n : Since) → counted_out n ≡ true → n ≡ ManyOrNoSyn
since_other Nothing h = absurd (false≢true h)
since_other OneSymbol h = absurd (false≢true h)
since_other ManyOrNoSyn h = refl

skips_silent : (p : Phase) (n : Since) → skips_symbol p n ≡ true → (p ≡ Silent) × (n ≡ ManyOrNoSyn)
skips_silent Silent n h = (refl, since_other n h)
skips_silent (Reading c p a) n h = absurd (false≢true h)
skips_silent (Sending at p a) n h = absurd (false≢true h)
skips_silent (Awaiting p a) n h = absurd (false≢true h)
skips_silent (Judging p a m k) n h = absurd (false≢true h)
skips_silent Owing n h = absurd (false≢true h)
skips_silent Releasing n h = absurd (false≢true h)

symbol_so : (t : Turn) (x : ℕ) → t.station.phase ≡ Silent → t.station.since ≡ ManyOrNoSyn → t.told ≡ Silence → t.station.admitted ≡ false
    → hear_symbol t.station x ≡ t
unfolding hear_symbol noted
symbol_so t x e f w a =
    let s = t.station in
    ap (λ (p : Phase). row p (heard_other x) (bids s) (noted s)) e
    ∙ ap (λ (n : Since). goes (with_access s false s.marked (since_next n)) Silent Silence) f
    ∙ sym (same t Silent ManyOrNoSyn w a f e)

-- its turn is what it was
heard_so : (heard : Sound) (t : Turn) → t.told ≡ Silence → t.station.admitted ≡ false
    → skips heard t.station.phase t.station.since ≡ true → turned heard t ≡ t
unfolding hears
heard_so Quiet t w a h =
    rw (ready_so t.station (skipper_owes t.station.phase h)) (quiet_so t.station.phase t refl w a h)
heard_so (Symbol x) t w a h =
    let g = not_first (eqb x syn) _ h in
    let f = skips_silent t.station.phase t.station.since g.1 in
    rw (ready_in Silent t.station f.0 refl, no_syn t.station x g.0) (symbol_so t x f.0 f.1 w a)

pub still_untold : (heard : Sound) (t : Turn) → still heard t ≡ true → is_told t.told ≡ false
unfolding still
still_untold heard t e = (not_first (is_told t.told) _ e).0

pub still_unowned : (heard : Sound) (t : Turn) → still heard t ≡ true → is_owns t.told ≡ false
still_unowned heard t e = untold_owns t (still_untold heard t e)

pub still_unbid : (heard : Sound) (t : Turn) → still heard t ≡ true → bids t.station ≡ false
unfolding still bids
still_unbid heard t e =
    let w = not_first (is_told t.told) _ e in
    rw (not_first t.station.admitted _ w.1).0

pub still_turned : (heard : Sound) (t : Turn) → still heard t ≡ true → turned heard t ≡ t
unfolding still
still_turned heard t e =
    let w = not_first (is_told t.told) _ e in
    let a = not_first t.station.admitted _ w.1 in
    heard_so heard t (silence t.told w.0) a.0 a.1
