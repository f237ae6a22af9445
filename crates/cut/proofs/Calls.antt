-- The statement's steps are the calls: what `wal::append` answers, and what it leaves of writer and image. Assumes nothing.
use mathlib.Core.Path.{◌≡◌, refl}
use Prim.Native.Nat.{ℕ}
use lib.ListN.{length}
use Rattle.wal_writer.specs.Append.{Placed, accepted, refused, place}
use Rattle.wal_writer.specs.Answers.{appended_of, writer_after}
use Rattle.wal_writer.specs.declared.WalWriter.{WalWriter}
use Rattle.cut.specs.PlainLog.{Append}
use Rattle.cut.specs.Cut.{LogImage, used_after, answer_of, after_append, writer_of, Calls}

left : (w : WalWriter) (n : ℕ) (x : Placed) → writer_after w (appended_of w.exponent n x) ≡ record { exponent = w.exponent; used = used_after x w.used n }
unfolding writer_after appended_of used_after
left w n (accepted start) = refl
left w n (refused m) = refl

pub calls : (k : ℕ) (st : LogImage) (a : Append) → Calls k st a
unfolding after_append answer_of
calls k st a =
    record {
      answer = refl;
      writer = left (writer_of k st) (length a.payload) (place k st.used (length st.image) (length a.payload));
      image = refl;
    }
