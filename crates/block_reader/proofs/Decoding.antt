-- A block that was read decodes at its place. Assumes nothing.
use mathlib.Core.Path.{◌≡◌, refl, sym, ap, ◌∙◌, subst}
use mathlib.Core.List.{List}
use Prim.Native.Nat.{ℕ, ◌+◌, ◌-◌, ◌≤◌}
use native.Mathlib.Omega.{arith}
use lib.ListN.{length, take, drop, length-drop}
use lib.Seq.{drop-drop}
use Rattle.laws.specs.Bytes.{bytes_at, AllBytes}
use Rattle.laws.specs.Parse.{number}
use Rattle.laws.specs.Parse as parse
use Rattle.laws.proofs.AllBytes.{bytes_part}
use Rattle.laws.proofs.Parses.{got_value, then_found, number_found}
use Rattle.laws.proofs.Written.{length_bytes_at}
use Rattle.rows.proofs.Rows.{drop_take}
use Rattle.types.specs.declared.BlockReference.{BlockReference}
use Rattle.types.specs.Records.{BlockValue, block, block_bytes}
use Rattle.commits.specs.Records.{OwnBlockValue, own_block}
use Rattle.roundtrip.proofs.Inverse.{Spans}
use Rattle.roundtrip.proofs.Blocks.{block_inverse}
use Rattle.block_reader.specs.Reading.{BlockRead, refused, got, block_at}
use Rattle.block_reader.proofs.Reading.{own_eight}
use Rattle.block_reader.proofs.Blocks.{read_holds}

-- the block of an own block decodes where it stands
behind_eight : (t : List ℕ) → AllBytes t → {o : OwnBlockValue} {e : ℕ} → own_block t 0 ≡ parse.Res.got o e
    → (f : ℕ) × (block (drop 8 t) 0 ≡ parse.Res.got o.block f)
unfolding own_block bytes_at
behind_eight t bytes h =
    let n = then_found (number 8 t 0) h in
    let b = then_found (block t n.1) n.3 in
    let at : n.1 ≡ 8 = omega (arith, (number_found 8 t 0 n.2).end) in
    let x : BlockValue = b.0 in
    let laid = block_inverse.encoded bytes (ap (block t) (sym at) ∙ b.2) in
    let spans : Spans (drop 8 t) 0 (block_bytes x) (length (block_bytes x)) =
    record {
      end = omega arith;
      within = omega (arith, laid.spans.end, laid.spans.within, length-drop 8 t);
      these = laid.spans.these;
    } in (
      length (block_bytes x),
      block_inverse.decoded x laid.valid spans
          ∙ ap (λ (o : OwnBlockValue). parse.Res.got o.block (length (block_bytes x))) (got_value b.3),
    )

-- the block of n bytes at a place of s
pub record Decoded (s : List ℕ) (r : BlockReference) (at n : ℕ) : Type 0 where
  pub within : at + n ≤ length s
  pub value : BlockValue
  pub end : ℕ
  pub decodes : block (bytes_at s at n) 0 ≡ parse.Res.got value end
  pub refers : value.reference ≡ r

abbrev Decodes : List ℕ → BlockRead → Type 0
Decodes s (refused n) = Unit {0}
Decodes s (got r at n) = Decoded s r at n

pub read_decodes : (k : ℕ) (s : List ℕ) (used p : ℕ) {r : BlockReference} {at n : ℕ} → AllBytes s → block_at k s used p ≡ got r at n
    → Decoded s r at n
unfolding bytes_at
read_decodes k s used p bytes is =
    subst (Decodes s) is
    (read_holds (Decodes s) (λ n. tt) s
    (λ at n h b e i. record { within = h; value = b; end = e; decodes = i; refers = refl })
    (λ at n h o e i.
    let long : 8 ≤ n = omega (arith, own_eight (bytes_at s at n) i, length_bytes_at s at n h) in
    let d = behind_eight (bytes_at s at n) (bytes_part s at n bytes) i in
    let whole : n ≡ 8 + (n - 8) = omega arith in
    let same : drop 8 (take n (drop at s)) ≡ take (n - 8) (drop (at + 8) s) =
    ap (λ (m : ℕ). drop 8 (take m (drop at s))) whole ∙ drop_take 8 (n - 8) (drop at s) ∙ ap (take (n - 8)) (drop-drop 8 at s) in
    record { within = omega arith; value = o.block; end = d.0; decodes = ap (λ (l : List ℕ). block l 0) (sym same) ∙ d.1; refers = refl })
    k used p)
