mod CallsExits
