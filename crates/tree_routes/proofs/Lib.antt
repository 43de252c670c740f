-- Laws that belong to no one function.
pub mod Laws
pub mod WhatIsFound
pub mod FirstOfEachName
pub mod AlongARoute
