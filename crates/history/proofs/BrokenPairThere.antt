-- Which pair was broken (02, E6), by what is heard, after any calls from power-on: where a station is told failed 5 with a position and a
-- symbol, they are there, in the answer that an owner reads. Assumes nothing.
use mathlib.Core.Path.{◌≡◌, refl, sym, ap, ap₂, subst, ◌∙◌}
use mathlib.Core.Logic.{◌≢◌}
use mathlib.Core.Bool.{Bool}
use mathlib.Core.List.{List, [], ◌∷◌, ◌++◌, append_assoc}
use mathlib.Core.Option.{some}
use Prim.Native.Nat.{ℕ, ◌+◌, ◌<◌}
use native.Mathlib.Omega.{arith}
use lib.ListN.{length, get_or, take, length-append}
use lib.Seq.{take_at, get_or_at}
use Rattle.wire.specs.Pair.{expand}
use Rattle.wire.specs.Reading.{BrokenAt}
use Rattle.wire.specs.declared.form.Wire.{Wire}
use Rattle.wire.specs.declared.pair.WrongPair.{WrongPair}
use Rattle.wire.specs.declared.part.Part.TheVariants.{AnswerPart}
use Rattle.wire.specs.declared.part.Telegram.{Telegram}
use Rattle.wire.specs.declared.reader.Cursor.{Cursor}
use Rattle.wire.specs.declared.reader.Outcome.TheVariants.{BrokenPair}
use Rattle.wire.proofs.OneMore.{step_broken}
use Rattle.wire.proofs.Reached.{reached_so_far}
use Rattle.wire.proofs.SoFar.{SoFar}
use Rattle.station.specs.declared.phase.Phase.{Phase}
use Rattle.station.specs.declared.phase.Sound.{Sound}
use Rattle.station.specs.declared.phase.Sound.TheVariants.{Symbol}
use Rattle.bus.specs.Bus.{powered_on, attached_to, turn_at}
use Rattle.bus.specs.Slot.{slot_heard}
use Rattle.promises.specs.Calls.{Call, after_calls, ByteCalls}
use Rattle.promises.specs.Fit.{station_at}
use Rattle.history.specs.AnswerHeard.{BrokenIn, PairIsThere}
use Rattle.history.specs.Failed.{pair_in, Breaks, in_answer}
use Rattle.history.specs.Observer.{report_of, share_of}
use Rattle.history.specs.Seen.{seen, station_by}
use Rattle.history.specs.Share.{Time, asker, Share, reads}
use Rattle.history.specs.SinceAa.{since_aa}
use Rattle.history.specs.Verdict.{verdict}
use Rattle.history.proofs.AnswerHeard.{answer_heard}
use Rattle.history.proofs.AsObserved.{share_matches}
use Rattle.history.proofs.Matches.{Matches, MatchesIn}
use Rattle.history.proofs.Matches as matches
use Rattle.history.proofs.Sentences.{pair_exactly_when}
use Rattle.history.proofs.SinceAa.{seen_symbols}
use Rattle.history.proofs.Verdicts.{verdict_next}

-- ---- in the symbols of the answer

-- somebody has read so far
record ReadSoFar (xs : List ℕ) : Type 0 where
  cursor : Cursor
  part : Telegram
  so_far : SoFar AnswerPart cursor part xs

read_so_far : {a : ℕ} {m : Bool} {out : Wire} {part : Telegram} {q : Phase} {t : Telegram} {n : Time} {xs : List ℕ}
    → Matches a m out part q (reads (asker t) n xs) → ReadSoFar xs
read_so_far {part = part} {xs = xs} (matches.is_reads c p₀ full reached _ _) =
    record { cursor = c; part = part; so_far = reached_so_far AnswerPart c p₀ part xs full reached }

broken_at : {xs : List ℕ} {b : ℕ} {x : WrongPair} → ReadSoFar xs → b ≢ 0xAA → verdict AnswerPart (xs ++ (b ∷ [])) ≡ BrokenPair x → BrokenAt [] (xs ++ (b ∷ [])) x
broken_at {b = b} w n e = step_broken w.so_far b (sym (verdict_next b w.so_far n) ∙ e)

-- by places
broken_in : {ys : List ℕ} {x : WrongPair} → BrokenAt [] ys x → BrokenIn ys x.position x.symbol
broken_in {ys} {x} w =
    let zs = w.nn ∷ expand w.bytes in
    let p = w.position in
    let two : ys ≡ (zs ++ (0xA9 ∷ [])) ++ (x.symbol ∷ []) = w.heard ∙ sym (append_assoc zs (0xA9 ∷ []) (x.symbol ∷ [])) in
    record {
      escape = ap (λ (l : List ℕ). get_or l x.position 0) w.heard ∙ get_or_at zs 0xA9 (x.symbol ∷ []) 0 x.position (sym p);
      behind = ap (λ (l : List ℕ). get_or l (x.position + 1) 0) two ∙ get_or_at (zs ++ (0xA9 ∷ [])) x.symbol [] 0 (x.position + 1) (omega (arith, p, length-append zs (0xA9 ∷ [])));
      last = ap length w.heard ∙ omega (arith, p, length-append zs (0xA9 ∷ x.symbol ∷ []));
      wrong = w.wrong;
      nn = w.nn;
      bytes = w.bytes;
      undone = ap (λ (l : List ℕ). take x.position l) w.heard ∙ take_at zs (0xA9 ∷ x.symbol ∷ []) x.position (sym p);
      most = w.most;
      few = w.few;
    }

-- the symbol behind the A9 is the last
last_is : (xs : List ℕ) (b : ℕ) {p x : ℕ} → BrokenIn (xs ++ (b ∷ [])) p x → b ≡ x
last_is xs b {p} {x} w =
    let n : length xs ≡ p + 1 = omega (arith, w.last, length-append xs (b ∷ [])) in
    sym (get_or_at xs b [] 0 (p + 1) n) ∙ w.behind

-- ---- the theorem

module _ (cs : List Call) (bytes : ByteCalls cs) (i : ℕ) (attached : i < attached_to (after_calls powered_on cs)) where
  abbrev its_share : Share
  its_share = share_of (station_by i cs).address (station_by i cs).master (seen i cs)

  in_what_was_heard : (x : WrongPair) {u : Share} {h : Sound} → Breaks x u h → its_share ≡ u → PairIsThere (since_aa cs) h x
  unfolding share_of
  in_what_was_heard x (in_answer {t = t} {n = n} {xs = xs} {b = b} clear e) j =
      let matched = subst (λ (u : Share). MatchesIn (station_at (after_calls powered_on cs) i) u) j (share_matches cs bytes i attached) in
      let there = broken_in (broken_at (read_so_far matched) clear e) in
      let same = last_is xs b there in
      let w = answer_heard (station_by i cs).address (station_by i cs).master (seen i cs).earlier (seen i cs).now j in
      record {
        telegram = t;
        time = n;
        answer = xs ++ (b ∷ []);
        just = ap Symbol same;
        heard =
            record {
              before = w.before;
              opens = w.opens;
              is =
                  ap₂ (λ (l : List ℕ) (s : ℕ). l ++ (s ∷ [])) (sym (seen_symbols i cs)) (sym same)
                  ∙ ap (λ (l : List ℕ). l ++ (b ∷ [])) w.is ∙ append_assoc w.before xs (b ∷ []);
            };
        there = there;
      }

  -- whoever is told of a broken pair in the next slot, whatever all hear in it
  pub broken_pair_is_there : (h : Sound) (x : WrongPair) → pair_in (report_of (turn_at (slot_heard (after_calls powered_on cs) h) i).told) ≡ some x
      → PairIsThere (since_aa cs) h x
  broken_pair_is_there h x e = in_what_was_heard x ((pair_exactly_when cs bytes i attached h x).0 e) refl
