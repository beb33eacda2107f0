-- No receipt is lost: `NoneLost` holds of the centre. Assumes nothing.
use Rattle.properties.specs.NoneLost.{NoneLost}
use Rattle.properties.proofs.Dealt.{dealt-arises}
use Rattle.properties.proofs.MarksKept.{dealt, marks-kept}
use Rattle.properties.proofs.Written.{written}
use Rattle.properties.proofs.Outstanding.{sound-history}

pub none_lost : NoneLost
none_lost =
    record {
      arises = λ book w st a k below. dealt-arises w a st _ _ (dealt book w a below st) k;
      keeps = marks-kept;
      written = written;
      owed = λ book hs a s id sequence below. (sound-history a book below hs).owed s id sequence;
      once = λ book hs a s t id sequence other below. (sound-history a book below hs).once s t id sequence other;
    }
