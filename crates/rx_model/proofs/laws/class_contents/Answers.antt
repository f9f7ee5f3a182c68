use Rattle.rx_model.proofs.Classes.ClassContents.{contents_end, is_contents, is_front}
use Rattle.rx_model.proofs.laws.class_contents.Goals as goal

pub returns-clause-front : goal.returns-clause-front
returns-clause-front c = is_front

pub returns-clause-sound : goal.returns-clause-sound
returns-clause-sound c = is_contents

pub returns-clause-whole : goal.returns-clause-whole
returns-clause-whole c = contents_end
