use Rattle.sp_link_follow_laws.proofs.Structs.{structs_followed, members_there}
use Rattle.sp_link_follow_laws.proofs.laws.structs_follow.Goals as goal

pub returns-clause-follow : goal.returns-clause-follow
returns-clause-follow c = λ us m u ss h t at.
    structs_followed us m h t c.matching_laws.ensures.numbered c.matching_laws.ensures.joined
    c.matching_laws.ensures.there u ss at

pub returns-clause-members : goal.returns-clause-members
returns-clause-members c = λ us m h have. members_there us m h c.matching_laws.ensures.there have
