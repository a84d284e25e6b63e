-- `wire::form::part_form` meets its contract: the buffer holds the head, NN and the bytes so far.
use Rattle.std.proofs.Common.{◌≡◌, ℕ, ◌+◌, ◌*◌, ◌≤◌, List, [], ◌∷◌, ◌++◌, length, take, sym, ap, ◌∙◌, arith, length-append, length-take, take_all, rules}
use Rattle.wire.specs.declared.form.Wire.{Wire}
use Rattle.wire.specs.declared.part.Load.{Load}
use Rattle.wire.specs.Pair.{expand}
use Rattle.wire.specs.Form.{appended, holding, held_by, count_of}
use Rattle.wire.proofs.Buffer.{appended_holding, held_len, held_front}
use Rattle.wire.proofs.Filling.{so_far, so_far_none, so_far_length, turn, finish, count_at_most}
use Rattle.wire.proofs.form.part_form.Goals as goal

-- what stands before NN, and the buffer with NN behind it
record Begun (head w : Wire) (nn : ℕ) : Type 0 where
  with_nn : w ≡ appended head (nn ∷ [])
  held : head ≡ holding (held_by head)
  len : head.len ≤ 4
  most : nn ≤ 16

module _ {head w : Wire} {nn : ℕ} (b : Begun head w nn) where
  -- four symbols at most
  short : length (held_by head) ≤ 4
  short =
      let l = b.len in
      omega (arith, held_len head (held_by head) b.held)

  started : w ≡ holding (held_by head ++ (nn ∷ []))
  started =
      b.with_nn ∙ ap (λ (v : Wire). appended v (nn ∷ [])) b.held
      ∙ appended_holding (held_by head) (nn ∷ []) (omega (arith, short))

  started_front : held_by w ≡ held_by head ++ (nn ∷ [])
  started_front = held_front w _ started

  started_short : length (held_by w) ≤ 5
  started_short = omega (arith, short, ap length started_front, length-append (held_by head) (nn ∷ []))

  items : (bytes : List ℕ) → length (take nn bytes) ≤ 16
  items bytes =
      let m = b.most in
      omega (arith, length-take nn bytes)

begun : {head w : Wire} {nn : ℕ} (l : Load) → nn ≡ count_of l → w ≡ appended head (nn ∷ []) → (head ≡ holding (held_by head)) × (head.len ≤ 4)
    → Begun head w nn
begun l n p h = record { with_nn = p; held = h.0; len = h.1; most = rw n (count_at_most l) }

-- the buffer at the loop's head holds little enough
module _ {head v : Wire} {nn : ℕ} (b : Begun head v nn) (w : Wire) (i : ℕ) (bytes : List ℕ) (h : w ≡ holding (so_far (held_by v) (take nn bytes) i)) where
  held_short : length (so_far (held_by v) (take nn bytes) i) ≤ 5 + 2 * i
  held_short = omega (arith, so_far_length (held_by v) (take nn bytes) i, started_short b)

  len_at : w.len ≤ 5 + 2 * i
  len_at = omega (arith, held_len w (so_far (held_by v) (take nn bytes) i) h, held_short)

pub loop-b-init : goal.loop-b-init
loop-b-init c =
    let b = begun c.args.load c.count_of-nn.ensures c.push-w.ensures c.requires in
    started b ∙ ap holding (sym (started_front b) ∙ sym (so_far_none (held_by c.push-w.result) (take c.count_of-nn.result c.args.load.bytes)))

pub put-w-requires : goal.put-w-requires
put-w-requires c =
    let b = begun c.args.load c.count_of-nn.ensures c.push-w.ensures c.requires in
    omega (arith, len_at b c.loop-b.w c.loop-b.b-index c.args.load.bytes c.loop-b.invariant, items b c.args.load.bytes)

pub loop-b-preserved : goal.loop-b-preserved
loop-b-preserved c =
    let b = begun c.args.load c.count_of-nn.ensures c.push-w.ensures c.requires in
    let l = items b c.args.load.bytes in
    turn (held_by c.push-w.result) (take c.count_of-nn.result c.args.load.bytes) c.loop-b.w c.put-w.result c.loop-b.b-index (started_short b) (omega arith) c.loop-b-test.true
    c.loop-b.invariant c.put-w.ensures

pub shared_ref_as_front-of : goal.shared_ref_as_front-of
shared_ref_as_front-of c =
    let b = begun c.args.load c.count_of-nn.ensures c.push-w.ensures c.requires in
    omega (arith, len_at b c.loop-b.w c.loop-b.b-index c.args.load.bytes c.loop-b.invariant, items b c.args.load.bytes)

pub put-requires : goal.put-requires
put-requires c =
    let b = begun c.args.load c.count_of-nn.ensures c.push-w.ensures c.requires in
    omega (arith, len_at b c.loop-b.w c.loop-b.b-index c.args.load.bytes c.loop-b.invariant, items b c.args.load.bytes)

pub returns : goal.returns
returns c =
    let b = begun c.args.load c.count_of-nn.ensures c.push-w.ensures c.requires in
    let n = c.count_of-nn in
    let bytes = c.args.load.bytes in
    let l : length bytes ≡ 16 = search rules in
    finish (held_by c.args.head) c.args.load c.loop-b.w c.put.result c.of-crc.result (short b) l
    (c.loop-b.invariant
    ∙ ap (λ (xs : List ℕ). holding (held_by c.push-w.result ++ expand xs)) (take_all c.loop-b.b-index (take n.result bytes) c.loop-b-test.false ∙ ap (λ (k : ℕ). take k bytes) n.ensures)
    ∙ ap (λ (xs : List ℕ). holding (so_far xs bytes (count_of c.args.load))) (started_front b ∙ ap (λ (k : ℕ). held_by c.args.head ++ (k ∷ [])) n.ensures))
    c.of-crc.ensures c.put.ensures
