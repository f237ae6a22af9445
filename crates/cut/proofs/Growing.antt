-- An accepted append adds its entry to what the walk lists, whatever log it is made to. Assumes nothing.
use mathlib.Core.Path.{◌≡◌, refl, sym, ap, ◌∙◌}
use mathlib.Core.List.{List, [], ◌∷◌, ◌++◌, append_assoc}
use Prim.Native.Nat.{ℕ, ◌+◌, ◌^◌, ◌<◌}
use native.Mathlib.Omega.{arith}
use lib.ListN.{length, take, drop}
use lib.Seq.{drop_at, length-take-le}
use Rattle.laws.specs.Bytes.{written}
use Rattle.laws.proofs.Written.{take_written, length_written}
use Rattle.wal_reader.specs.Entries.{Entry, end_of}
use Rattle.wal_writer.specs.Append.{accepted, place, image_after}
use Rattle.wal.specs.Walk.{Stop, END, listing, stopped, walk_at}
use Rattle.wal_writer.proofs.Places.{accepted_says}
use Rattle.wal.proofs.Prefixes.{onwards, walk_end, walk_resumes}
use Rattle.cut.proofs.Layouts.{Behind, own, length_own}
use Rattle.cut.proofs.Reading.{walk_lists}

module _ (k used : ℕ) (image : List ℕ) (a : Entry) (small : a.tag < 2 ^ 32) (is : place k used (length image) (length a.payload) ≡ accepted a.start) where
  -- the image with padding and entry
  abbrev grown : List ℕ
  grown = image_after (accepted a.start) used image a.tag a.payload

  put : Behind k used a
  put =
      let says = accepted_says k used (length image) (length a.payload) a.start is in
      record { at = says.starts; small = says.fits; tag = small }

  kept : take used image ≡ take used grown
  unfolding image_after
  kept =
      let says = accepted_says k used (length image) (length a.payload) a.start is in
      sym (take_written image used (own used a) used (omega arith) (omega (arith, says.sound.within)))

  behind : drop used grown ≡ own used a ++ drop (used + length (own used a)) image
  unfolding image_after written
  behind =
      let says = accepted_says k used (length image) (length a.payload) a.start is in
      ap (drop used) (append_assoc (take used image) (own used a) (drop (used + length (own used a)) image))
      ∙ drop_at (take used image) (own used a ++ drop (used + length (own used a)) image) used (length-take-le used image says.sound.within)

  lists : walk_at k grown (end_of a) used used ≡ record { entries = a ∷ []; ending = stopped END (end_of a) }
  unfolding listing
  lists =
      let says = accepted_says k used (length image) (length a.payload) a.start is in
      walk_lists k says.sound.high grown grown (end_of a) refl used a (drop (used + length (own used a)) image) put behind (omega arith)
      ∙ ap (listing a) (walk_end k grown (end_of a))

  pub walk_grows : {es : List Entry} {w : Stop} → walk_at k image used 0 0 ≡ record { entries = es; ending = stopped w used }
      → walk_at k grown (end_of a) 0 0 ≡ record { entries = es ++ (a ∷ []); ending = stopped END (end_of a) }
  unfolding onwards end_of
  walk_grows {es} walks =
      let says = accepted_says k used (length image) (length a.payload) a.start is in
      (walk_resumes k says.sound.low image used says.sound.within walks).same grown (end_of a) (omega (arith, says.from)) kept
      ∙ ap (onwards es) lists

  pub grown_long : length grown ≡ length image
  unfolding image_after end_of
  grown_long =
      let says = accepted_says k used (length image) (length a.payload) a.start is in
      length_written image used (own used a) (omega (arith, length_own used a says.from, says.ends))
